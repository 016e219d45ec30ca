pub mod Grammar
pub mod Measures
pub mod Reading
pub mod Tables
