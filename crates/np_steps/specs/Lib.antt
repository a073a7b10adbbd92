pub mod Lower
pub mod NodeEdits
