pub mod Repair
pub mod Pairs
pub mod Remove
pub mod Reach
pub mod Names
pub mod RemovalGuarantee
pub mod Corrected
pub mod Sequence
