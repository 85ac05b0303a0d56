pub mod Pages
pub mod Arms
pub mod Meaning
pub mod Stands
pub mod Lengths
pub mod Decimals
pub mod Whole
pub mod Determined
