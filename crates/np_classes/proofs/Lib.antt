pub mod Prelude
pub mod MemberLemmas
pub mod Untouched
pub mod Listed
