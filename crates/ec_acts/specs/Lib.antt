pub mod Doings
pub mod Rows
pub mod Taking
pub mod Settling
pub mod Worlds
pub mod Fresh
pub mod Loading
pub mod Loaded
