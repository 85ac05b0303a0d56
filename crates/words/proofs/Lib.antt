pub mod Bounds
pub mod Laws
pub mod Layouts
pub mod Lists
pub mod Nodes
pub mod Orders
pub mod Refusals
pub mod Tests
