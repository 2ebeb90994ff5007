pub mod Checks
pub mod Decoded
