pub mod Rules
pub mod Along
pub mod Search
pub mod Unique
