pub mod Items
pub mod Judging
pub mod Members
pub mod Rows
pub mod Typing
pub mod Values
