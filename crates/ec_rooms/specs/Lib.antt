pub mod Rooms
pub mod Runs
pub mod Standing
pub mod Laws
pub mod Places
pub mod Full
pub mod PlacingLaws
