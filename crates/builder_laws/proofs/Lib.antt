pub mod Trees
pub mod Words
pub mod Colours
pub mod Tests
pub mod Builds
