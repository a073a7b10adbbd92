pub mod Prelude
pub mod Finds
pub mod Registrants
pub mod Launchers
