pub mod Commands
pub mod Endings
pub mod Laws
pub mod Refusals
pub mod Runs
pub mod Verdicts
