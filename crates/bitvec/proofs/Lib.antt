pub mod Numbers
pub mod Weights
pub mod Bytes
pub mod Table
pub mod Laws
pub mod Determined
