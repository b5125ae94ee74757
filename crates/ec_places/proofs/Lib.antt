pub mod Among
pub mod DeclaredRolled
pub mod Parts
pub mod Programs
pub mod RisingTokens
pub mod Skipped
pub mod Trees
