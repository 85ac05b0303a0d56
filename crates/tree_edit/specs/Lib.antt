pub mod Links
pub mod Store
pub mod Rotations
pub mod Rounds
pub mod Reach
pub mod Inside
pub mod Below
