pub mod Stops
pub mod Meeting
pub mod Words
pub mod Frames
pub mod ValueByValue
pub mod Entries
pub mod Operands
