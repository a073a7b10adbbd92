pub mod Lower
pub mod Batch
pub mod Log
pub mod Place
pub mod Writing
pub mod Cause
pub mod Walking
pub mod Worked
