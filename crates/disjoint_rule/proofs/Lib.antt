pub mod Chains
pub mod Apart
pub mod Points
pub mod Overlaps
pub mod Kept
pub mod Three
