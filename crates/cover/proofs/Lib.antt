pub mod Visiting
pub mod Choosing
pub mod Stepping
pub mod Ruling
pub mod Reaching
pub mod Unique
