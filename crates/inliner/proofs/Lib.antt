pub mod Grows
pub mod Loops
pub mod Measures
pub mod Orders
pub mod Owners
pub mod Rows
pub mod Sizing
pub mod Told
