pub mod Prelude
pub mod Accepted
pub mod Fresh
