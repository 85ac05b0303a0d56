pub mod Laws
pub mod Drained
pub mod Hosts
pub mod Examples
pub mod Promised
pub mod Determined
