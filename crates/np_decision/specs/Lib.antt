pub mod Lower
pub mod Verdicts
