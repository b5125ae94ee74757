pub mod Meaning
pub mod Words
pub mod Laws
pub mod Sizes
pub mod Sized
