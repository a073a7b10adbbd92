pub mod Lower
pub mod Canonical
