pub mod Prelude
pub mod Loads
pub mod Sites
