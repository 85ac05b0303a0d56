pub mod Pages
pub mod Arms
pub mod Back
pub mod Meaning
pub mod Examples
pub mod Determined
