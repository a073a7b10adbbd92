pub mod Prelude
pub mod Writes
pub mod Walks
