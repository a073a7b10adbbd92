pub mod Configuration
pub mod Word
