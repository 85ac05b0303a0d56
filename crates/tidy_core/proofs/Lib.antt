pub mod Tagging
pub mod Moving
pub mod Planning
pub mod Determined
