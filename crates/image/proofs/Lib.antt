pub mod Layouts
pub mod Judges
pub mod Loads
pub mod Writes
