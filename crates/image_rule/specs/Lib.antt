pub mod Judge
pub mod Layout
pub mod Stored
pub mod Written
pub mod Sought
