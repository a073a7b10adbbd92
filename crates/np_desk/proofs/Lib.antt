pub mod Prelude
pub mod HistoryLemmas
pub mod DeskRule
