pub mod Deciding
pub mod Order
pub mod Outcomes
pub mod Standing
pub mod Statements
pub mod Telling
pub mod Turns
