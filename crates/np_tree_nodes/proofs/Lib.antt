pub mod Prelude
pub mod PlaceLemmas
pub mod KeptLemmas
pub mod PlanLemmas
