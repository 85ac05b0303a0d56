pub mod Laws
pub mod Kept
pub mod Same
pub mod Determined
