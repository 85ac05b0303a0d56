pub mod Operations
pub mod Does
pub mod Narrowed
