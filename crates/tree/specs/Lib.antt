pub mod Tree
pub mod Zipper
pub mod Order
pub mod Hulls
pub mod RedBlack
pub mod Passes
pub mod View
pub mod Below
