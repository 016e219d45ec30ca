pub mod Rest
pub mod Shapes
