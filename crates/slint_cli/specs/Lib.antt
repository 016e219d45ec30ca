pub mod Outputs
pub mod Running
pub mod Statuses
pub mod Turns
pub mod Verdicts
