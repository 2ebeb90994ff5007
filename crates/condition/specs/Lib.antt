-- The conditions of a path, and the rules on them.
pub mod Conditions
