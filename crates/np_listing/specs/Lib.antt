pub mod Lower
pub mod Listing
pub mod Tally
pub mod Summary
