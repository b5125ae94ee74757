pub mod Folds
pub mod Kinds
pub mod Layers
