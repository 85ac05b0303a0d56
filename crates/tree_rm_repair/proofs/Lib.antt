pub mod Rounds
pub mod Determined
