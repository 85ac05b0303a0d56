pub mod Plans
pub mod Marks
pub mod Settles
pub mod Moves
pub mod Renumbers
pub mod Proposals
pub mod Below
pub mod Three
