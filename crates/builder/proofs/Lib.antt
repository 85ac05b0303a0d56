pub mod Spans
pub mod Levels
pub mod Parts
pub mod Layouts
pub mod Tests
