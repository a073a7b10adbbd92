pub mod Prelude
pub mod RowTakes
pub mod WalkTakes
pub mod Parsed
pub mod DefaultLemmas
