pub mod Climbing
pub mod Places
pub mod Running
