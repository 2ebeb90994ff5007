pub mod Visit
pub mod Nodes
pub mod Ending
