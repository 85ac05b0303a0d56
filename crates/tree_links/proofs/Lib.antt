pub mod LinkLaws
pub mod Loops
pub mod Determined
