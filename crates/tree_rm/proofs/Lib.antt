pub mod Removes
pub mod Determined
