pub mod Bare
pub mod Typed
pub mod Rows
pub mod Asking
pub mod Laws
