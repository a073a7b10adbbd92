pub mod Prelude
pub mod Readers
pub mod Values
pub mod Records
pub mod RequestForm
