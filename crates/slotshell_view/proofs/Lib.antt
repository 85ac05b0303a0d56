pub mod Laws
pub mod Counts
pub mod Hulls
pub mod Shown
pub mod Trails
pub mod Turns
