pub mod Judging
pub mod Text
pub mod Words
pub mod Reading
