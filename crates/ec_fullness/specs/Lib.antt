pub mod Fitting
pub mod FittingRoom
pub mod Waiters
pub mod Laws
pub mod Fullness
pub mod Room
pub mod Told
