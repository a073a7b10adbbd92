pub mod Lower
pub mod Line
pub mod Chains
