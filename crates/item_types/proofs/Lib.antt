pub mod Inside
pub mod Leaves
pub mod Lists
pub mod Sounds
pub mod Telling
