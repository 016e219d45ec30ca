pub mod Answers
pub mod Names
pub mod Numbers
pub mod Options
pub mod Places
pub mod Refusals
pub mod Rules
pub mod Texts
