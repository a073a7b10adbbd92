pub mod Prelude
pub mod OwnText
pub mod Rows
pub mod PlayedLemmas
pub mod Named
pub mod Findings
