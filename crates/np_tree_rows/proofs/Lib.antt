pub mod Prelude
pub mod Shown
pub mod Stored
pub mod Registered
pub mod NodeReads
