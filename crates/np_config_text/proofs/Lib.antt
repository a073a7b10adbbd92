pub mod Prelude
pub mod Again
pub mod Values
pub mod AgainWhole
pub mod Short
