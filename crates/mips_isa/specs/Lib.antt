pub mod OneWord
pub mod Parts
pub mod Words
