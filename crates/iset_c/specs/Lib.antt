pub mod Replies
pub mod Ranges
pub mod Places
