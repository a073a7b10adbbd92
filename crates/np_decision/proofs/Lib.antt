pub mod Prelude
pub mod PlaceLemmas
pub mod Reasons
pub mod Room
pub mod OwnerLemmas
