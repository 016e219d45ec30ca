pub mod Conversions
pub mod Orders
