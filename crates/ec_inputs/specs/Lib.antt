pub mod Nodes
pub mod Schedules
pub mod Words
