pub mod Forms
pub mod Jumping
pub mod Programs
pub mod Turning
mod Declared
mod Making
mod NextLine
mod Put
mod Operations
