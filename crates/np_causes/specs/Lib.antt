pub mod Lower
pub mod Fact
pub mod Explains
pub mod Worked
