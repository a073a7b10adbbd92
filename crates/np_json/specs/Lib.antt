pub mod Reading
pub mod Leaf
pub mod Rows
