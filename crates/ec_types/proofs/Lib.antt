pub mod Firsts
pub mod ByNumber
pub mod Distinct
pub mod NamesLemmas
pub mod Rows
pub mod Striking
pub mod Tables
pub mod Named
pub mod Innermost
pub mod ScopesLemmas
pub mod Composes
pub mod Itself
mod Operations
mod TwoSteps
mod Union
