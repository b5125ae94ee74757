pub mod Dropped
pub mod Laws
pub mod SmallProgramsLaws
pub mod Lowerable
pub mod LoweredCodeLaws
pub mod CoreDropsLaws
