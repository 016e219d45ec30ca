pub mod Circles
pub mod Declarations
pub mod Exports
pub mod Repeats
pub mod Turns
pub mod Words
