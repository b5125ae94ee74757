pub mod Format
pub mod Combinators
pub mod Fields
pub mod Lists
pub mod Answers
