pub mod FrontLines
pub mod Lookups
pub mod PenSteps
pub mod Pens
pub mod Pushing
pub mod Sizes
pub mod Spelled
pub mod Turns
