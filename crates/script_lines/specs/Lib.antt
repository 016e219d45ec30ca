pub mod Ints
pub mod Lines
pub mod Paths
pub mod Written
