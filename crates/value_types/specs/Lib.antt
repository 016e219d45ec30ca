pub mod CommonTypes
pub mod Conversions
pub mod Defaults
pub mod Printed
