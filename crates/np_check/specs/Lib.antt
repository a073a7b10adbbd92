pub mod Lower
pub mod Near
pub mod Spot
pub mod Demand
pub mod Report
