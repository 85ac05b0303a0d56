pub mod Descent
pub mod InsertRepair
pub mod Insert
pub mod Reach
pub mod InsertionGuarantee
