pub mod Lower
pub mod Waits
pub mod Lookups
pub mod Ranks
pub mod Open
pub mod Moves
