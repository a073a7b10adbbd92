pub mod Facts
pub mod Calls
pub mod Sound
pub mod Inventory
