pub mod Findings
pub mod Sides
pub mod Paths
pub mod Decoded
pub mod Pairs
pub mod Verdicts
pub mod Unique
pub mod Yes
