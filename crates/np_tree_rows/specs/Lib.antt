pub mod Lower
pub mod Rows
