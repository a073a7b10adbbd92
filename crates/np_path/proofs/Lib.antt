pub mod Prelude
pub mod Walk
pub mod GrammarLemmas
pub mod PartsLemmas
pub mod PathLaws
