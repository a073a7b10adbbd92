pub mod Prelude
pub mod FreshLemmas
pub mod WatchLemmas
