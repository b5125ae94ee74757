pub mod Knowing
pub mod Leading
pub mod Searching
pub mod Newest
pub mod Histories
pub mod Going
pub mod Entries
