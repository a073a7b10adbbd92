pub mod Grammar
pub mod Makes
