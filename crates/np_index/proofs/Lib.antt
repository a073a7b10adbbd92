pub mod Prelude
pub mod Firsts
pub mod CandidateLemmas
pub mod Kept
pub mod Groups
pub mod Nodes
pub mod Requests
pub mod AmountLemmas
