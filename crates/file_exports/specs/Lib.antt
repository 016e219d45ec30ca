pub mod Imports
pub mod Names
pub mod Roots
