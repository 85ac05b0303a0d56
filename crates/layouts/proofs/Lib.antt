pub mod Agree
pub mod Calls
pub mod DisjointCalls
pub mod Narrowed
