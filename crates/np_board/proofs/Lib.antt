pub mod Prelude
pub mod BoardTurns
pub mod SeriesTurns
