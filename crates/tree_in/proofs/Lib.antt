pub mod Inserts
pub mod InsertRounds
pub mod Determined
