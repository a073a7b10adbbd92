pub mod Lower
pub mod Active
pub mod Placed
pub mod Given
