pub mod Laws
pub mod Tests
pub mod Ends
pub mod Fits
pub mod Decides
pub mod Linear
pub mod Examples
pub mod Unread
