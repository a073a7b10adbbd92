pub mod Prelude
pub mod KindLemmas
pub mod Changes
pub mod Searches
