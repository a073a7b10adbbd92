pub mod Prelude
pub mod CallLemmas
pub mod WholeLemmas
pub mod RowLemmas
pub mod RelationLemmas
pub mod LaterLemmas
