pub mod Prelude
pub mod Growing
pub mod NearViews
pub mod Places
