pub mod Values
pub mod Kinds
pub mod Loops
pub mod Acts
pub mod Texts
pub mod Lacks
