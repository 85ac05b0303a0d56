pub mod Input
pub mod Build
