pub mod Assignments
pub mod Judgements
pub mod Outcomes
pub mod Turns
