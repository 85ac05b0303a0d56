pub mod Bounds
pub mod Writes
pub mod Rounds
pub mod Begins
