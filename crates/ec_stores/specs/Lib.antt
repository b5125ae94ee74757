pub mod Memory
pub mod Lists
pub mod Tables
pub mod Node
pub mod Changes
pub mod Readable
pub mod Inside
