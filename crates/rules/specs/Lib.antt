-- The rules on the two sides of a path.
pub mod Rules
