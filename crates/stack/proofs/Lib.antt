pub mod Levels
pub mod Table
pub mod Laws
pub mod Determined
pub mod LentDetermined
