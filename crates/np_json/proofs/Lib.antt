pub mod Prelude
pub mod Lists
pub mod Binds
pub mod ItemLemmas
pub mod Takes
