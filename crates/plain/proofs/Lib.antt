pub mod Asked
pub mod Scans
