pub mod Waits
pub mod Words
pub mod Alike
pub mod Dropped
