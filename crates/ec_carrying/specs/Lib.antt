pub mod Steps
pub mod Moves
pub mod Landing
pub mod Carrying
pub mod Unpacking
pub mod Holding
pub mod UnpackingLaws
