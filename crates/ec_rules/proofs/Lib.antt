pub mod Equations
pub mod Forms
pub mod Lists
pub mod Noted
pub mod OneList
pub mod Order
pub mod Rows
pub mod Written
