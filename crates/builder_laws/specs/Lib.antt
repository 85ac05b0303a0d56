pub mod Input
pub mod Built
