pub mod Lower
pub mod Sessions
pub mod Cleanable
pub mod Launcher
pub mod Useful
pub mod Driven
pub mod Kinds
pub mod Candidates
