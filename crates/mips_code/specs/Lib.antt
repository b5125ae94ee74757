pub mod Laws
pub mod Meaning
pub mod Words
pub mod Sizes
pub mod Sized
