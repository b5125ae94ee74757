pub mod Answered
pub mod Divisions
pub mod Effects
pub mod Products
