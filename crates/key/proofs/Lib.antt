pub mod Digits
pub mod Pack
pub mod Unique
