pub mod Laws
pub mod Exits
pub mod Kept
pub mod Places
pub mod After
pub mod Ends
pub mod Determined
