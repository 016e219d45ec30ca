pub mod Readings
pub mod Shapes
