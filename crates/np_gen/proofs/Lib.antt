pub mod Prelude
pub mod DrillSite
