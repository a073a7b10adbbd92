pub mod Prelude
mod Players
mod OneRound
mod PlainLemmas
