pub mod Prelude
mod Few
pub mod RunLemmas
pub mod First
