pub mod Blocks
pub mod Chains
pub mod Holders
pub mod Programs
pub mod Walks
