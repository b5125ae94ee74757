pub mod Values
pub mod Expressions
pub mod Leaving
pub mod Statements
pub mod Cores
mod Lists
mod Emitted
mod SmallProgramsExpressions
mod SmallProgramsStatements
mod Texts
pub mod Programs
pub mod Parts
pub mod Standing
pub mod Lowering
pub mod Accepting
pub mod Giving
pub mod Dropping
