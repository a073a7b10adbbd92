pub mod Lower
pub mod Spots
pub mod Stale
