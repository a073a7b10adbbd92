pub mod Prelude
pub mod NumbersLemmas
