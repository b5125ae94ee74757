pub mod Placed
pub mod Moving
pub mod Code
pub mod Source
