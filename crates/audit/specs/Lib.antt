pub mod Survey
pub mod Calls
