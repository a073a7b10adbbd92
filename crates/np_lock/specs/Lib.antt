pub mod Faults
pub mod Calls
