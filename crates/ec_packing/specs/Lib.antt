pub mod Room
pub mod Packing
pub mod Standing
pub mod Narrow
pub mod Blocks
pub mod Between
pub mod Laws
