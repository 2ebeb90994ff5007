pub mod Forming
pub mod Moving
pub mod Following
pub mod Lists
pub mod Paper
pub mod Joined
pub mod Unique
