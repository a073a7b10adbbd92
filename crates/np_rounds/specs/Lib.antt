pub mod Lower
pub mod Crews
pub mod Plays
pub mod Backs
pub mod Played
pub mod Laps
