pub mod Prelude
pub mod Useful
