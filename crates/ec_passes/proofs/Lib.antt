pub mod Following
mod Itself
mod Passing
