pub mod FormLaws
mod Ends
