pub mod Bytes
pub mod Digits
pub mod Lined
pub mod Print
pub mod Refused
pub mod Samples
pub mod Storing
pub mod Unique
