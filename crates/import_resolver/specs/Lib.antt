pub mod Ends
pub mod Loaded
pub mod Loads
pub mod Numbers
pub mod Tables
