pub mod Prelude
pub mod Looks
