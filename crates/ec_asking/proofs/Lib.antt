pub mod OfKind
pub mod Programs
pub mod Resting
pub mod Operands
pub mod Rows
pub mod Tops
