pub mod Cells
pub mod Lists
pub mod Ownership
pub mod Pairs
