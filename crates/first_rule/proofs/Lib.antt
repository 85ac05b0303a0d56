pub mod Ways
pub mod Firsts
pub mod Three
