pub mod Laws
pub mod Programs
pub mod Kinds
pub mod Texts
