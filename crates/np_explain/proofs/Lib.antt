pub mod Prelude
pub mod JournalLines
pub mod Goes
pub mod Open
pub mod Statuses
