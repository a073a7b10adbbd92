pub mod Prelude
pub mod QueueLemmas
pub mod LookupLemmas
pub mod OwnerLemmas
pub mod Members
pub mod LineLemmas
