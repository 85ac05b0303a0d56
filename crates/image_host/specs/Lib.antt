pub mod Host
pub mod Requested
