pub mod Plain
pub mod Coming
