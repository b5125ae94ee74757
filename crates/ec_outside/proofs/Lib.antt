pub mod Places
pub mod Files
pub mod Fronts
pub mod Sharing
