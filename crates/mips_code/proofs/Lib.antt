pub mod Asks
pub mod Quotients
pub mod SourcesLemmas
pub mod Speaking
pub mod Ways
pub mod Works
pub mod Branches
pub mod Spans
