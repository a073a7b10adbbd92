pub mod Prelude
pub mod Fields
pub mod Lines
