pub mod Halving
pub mod Named
pub mod Ordered
pub mod Sorting
pub mod Tables
pub mod Texts
