pub mod Lower
pub mod Index
pub mod Waiting
