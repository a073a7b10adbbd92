pub mod OneGroup
