pub mod Chains
pub mod Places
pub mod Regions
pub mod Whole
pub mod Words
pub mod Writes
