pub mod Faults
pub mod Lexemes
pub mod Tokens
pub mod Words
