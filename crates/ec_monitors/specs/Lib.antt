pub mod Monitors
pub mod Room
pub mod Standing
pub mod Laws
