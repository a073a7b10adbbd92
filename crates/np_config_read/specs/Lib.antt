pub mod Lower
pub mod Providers
pub mod Requesters
pub mod Walk
pub mod FirstFaults
