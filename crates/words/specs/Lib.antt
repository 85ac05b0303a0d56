pub mod Ix
pub mod Refusals
pub mod Intervals
pub mod Nodes
pub mod Layouts
pub mod Lists
