pub mod Full
pub mod Unique
