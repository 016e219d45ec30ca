pub mod Fitting
pub mod LastLines
pub mod Nearest
