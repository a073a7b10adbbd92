pub mod Prelude
pub mod Joined
pub mod Bounds
