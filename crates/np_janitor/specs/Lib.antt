pub mod Lower
pub mod Struck
