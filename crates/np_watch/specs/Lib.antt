pub mod Keys
pub mod Watching
