pub mod Opened
pub mod Silent
pub mod Taken
pub mod Walked
