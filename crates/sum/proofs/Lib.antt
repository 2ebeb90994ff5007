pub mod Lists
pub mod Insertion
pub mod Full
pub mod Held
pub mod Product
pub mod Paper
pub mod Keyed
pub mod Unique
