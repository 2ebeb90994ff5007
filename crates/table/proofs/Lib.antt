pub mod Words
pub mod Decoding
pub mod Setting
pub mod Records
pub mod Unique
