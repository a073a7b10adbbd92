pub mod Lower
pub mod Loads
pub mod Counts
pub mod Site
pub mod Line
pub mod Read
