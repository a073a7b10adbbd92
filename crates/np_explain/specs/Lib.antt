pub mod Lower
pub mod Explained
pub mod Answers
