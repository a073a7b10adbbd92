pub mod Lower
pub mod Classes
pub mod Placed
pub mod Touched
pub mod Listed
