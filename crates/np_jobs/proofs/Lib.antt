pub mod Prelude
pub mod Nodes
pub mod Windows
pub mod Settles
