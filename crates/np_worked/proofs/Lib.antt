pub mod Prelude
mod CausedLemmas
mod DrivenLemmas
