pub mod Lower
pub mod Outstanding
pub mod PlanTaken
pub mod Batch
