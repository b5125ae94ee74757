pub mod Blocks
pub mod Sites
