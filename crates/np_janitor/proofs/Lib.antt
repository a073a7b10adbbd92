pub mod Prelude
pub mod Janitors
pub mod Nodes
pub mod Strikes
pub mod Undeclined
