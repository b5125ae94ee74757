pub mod Fault
pub mod MemShelf
pub mod MemSink
pub mod SharedCounts
pub mod Shelf
pub mod Whole
