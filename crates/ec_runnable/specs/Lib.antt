pub mod TypedOnceLaws
pub mod Runnable
pub mod FewValuesLaws
