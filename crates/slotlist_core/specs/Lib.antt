pub mod Words
pub mod Text
pub mod Printed
pub mod Reading
pub mod Working
pub mod Writing
pub mod Feeding
