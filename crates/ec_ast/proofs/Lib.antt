pub mod Claims
pub mod Layers
pub mod Rolled
