pub mod Status
pub mod Report
pub mod ObjectLines
pub mod Says
pub mod Progress
pub mod Lines
pub mod Driver
pub mod Comes
