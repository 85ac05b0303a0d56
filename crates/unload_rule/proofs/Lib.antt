pub mod Lists
pub mod Turns
pub mod Sweeps
pub mod Either
pub mod Ranges
pub mod Below
