pub mod Prelude
pub mod Statuses
pub mod ResumeStatuses
mod ReadingLemmas
