pub mod Lower
pub mod Site
