pub mod Entries
pub mod Following
pub mod Shown
pub mod Ending
