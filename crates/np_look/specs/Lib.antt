pub mod Lower
pub mod Readers
pub mod Jobs
pub mod Given
pub mod Keys
