pub mod Part
pub mod Series
pub mod Rule
pub mod Step
