pub mod Lower
pub mod Computed
pub mod Planned
