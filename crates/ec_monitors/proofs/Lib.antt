pub mod Granting
pub mod Queues
pub mod Standing
pub mod Counting
pub mod Keeping
pub mod Depths
