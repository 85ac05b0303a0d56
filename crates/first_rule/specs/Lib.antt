pub mod Way
pub mod First
