pub mod WireForm
pub mod Laws
pub mod Answers
