pub mod Addresses
pub mod Place
pub mod Entered
pub mod Highest
