pub mod Delays
pub mod Hazards
pub mod Laws
pub mod Machine
pub mod MachineLaws
pub mod Step
pub mod Values
