pub mod Prelude
pub mod Enacted
pub mod Queued
