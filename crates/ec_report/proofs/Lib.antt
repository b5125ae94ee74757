pub mod ObjectLists
pub mod Lifting
pub mod Choosing
pub mod Left
pub mod Coming
