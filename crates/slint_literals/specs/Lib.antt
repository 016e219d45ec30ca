pub mod Characters
pub mod Colours
pub mod Numbers
pub mod Printed
pub mod Spelled
pub mod Steps
pub mod Strings
