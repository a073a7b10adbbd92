pub mod Prelude
pub mod Steps
pub mod Runs
pub mod Rises
pub mod Acts
pub mod LiveHolders
pub mod Ids
