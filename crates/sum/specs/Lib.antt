-- The paper's operations on packed terms, and how a struct holds a list of them.
pub mod Packed
