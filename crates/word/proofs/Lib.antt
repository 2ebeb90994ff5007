pub mod Naming
pub mod Unique
