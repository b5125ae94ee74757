pub mod Emitting
pub mod Numbers
pub mod Replacing
pub mod Places
