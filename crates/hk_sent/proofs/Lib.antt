pub mod Cutting
pub mod Nodes
pub mod Managers
