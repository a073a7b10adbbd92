pub mod Lower
pub mod Summary
pub mod Told
pub mod Lines
pub mod Script
pub mod Agreement
pub mod Audit
