pub mod Check
pub mod Point
pub mod Place
pub mod Take
pub mod Sequence
pub mod Demands
