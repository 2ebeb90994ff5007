pub mod Settling
pub mod Members
pub mod Paper
pub mod Unique
