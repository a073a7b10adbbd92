pub mod Lower
pub mod Keeper
pub use Rattle.np_layout.specs.Carried
