pub mod Prelude
pub mod WaitLemmas
pub mod PlaceLemmas
pub mod JoinLemmas
pub mod LeaveLemmas
pub mod LawLemmas
