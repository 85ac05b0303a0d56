pub mod Same
pub mod Determined
