pub mod Trees
pub mod Narrow
pub mod Runs
pub mod Three
