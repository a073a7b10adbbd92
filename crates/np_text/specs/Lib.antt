pub mod Number
pub mod Name
pub mod Request
pub mod Lines
pub mod Sections
pub mod Word
