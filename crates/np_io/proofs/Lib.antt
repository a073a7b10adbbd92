pub mod Prelude
pub mod BytesLemmas
pub mod Moments
pub mod ReadLemmas
pub mod TornLemmas
pub mod CallLemmas
pub mod FileLemmas
