pub mod Prelude
pub mod RecordRows
pub mod ReadyTables
