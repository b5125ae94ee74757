pub mod Bytes
pub mod Steps
pub mod CombinatorLaws
pub mod FieldLaws
pub mod ListLaws
pub mod Wholes
mod ReadingLoop
mod WritingLoop
