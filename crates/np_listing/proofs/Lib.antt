pub mod Prelude
pub mod Walks
pub mod Counting
