pub mod Prelude
pub mod Changes
pub mod Searches
pub mod Plain
pub mod Members
