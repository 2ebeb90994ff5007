pub mod Header
pub mod Fields
pub mod Seconds
pub mod Decoding
pub mod Findings
pub mod Linking
pub mod Unique
