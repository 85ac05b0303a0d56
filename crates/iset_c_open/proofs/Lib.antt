pub mod Same
pub mod Kept
pub mod Determined
