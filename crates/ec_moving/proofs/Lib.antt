pub mod Lists
pub mod Objects
pub mod Asked
pub mod Doing
pub mod Worlds
pub mod Silent
pub mod SourceSteps
pub mod Source
