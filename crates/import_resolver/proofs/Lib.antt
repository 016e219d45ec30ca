mod Asking
mod Fitting
mod Leading
mod Lines
mod Lists
mod LoadSteps
mod Nexts
mod Numbering
mod OneOutcome
mod Parts
pub mod Resolved
mod Rows
mod SomeOutcome
mod WholeLoad
