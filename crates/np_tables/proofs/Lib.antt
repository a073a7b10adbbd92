pub mod Prelude
pub mod TableLemmas
