pub mod Bits
pub mod Calls
pub mod Written
pub mod Colours
