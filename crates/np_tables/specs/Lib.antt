pub mod Lower
pub mod CanChange
