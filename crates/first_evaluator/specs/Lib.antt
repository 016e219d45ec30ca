pub mod Bindings
pub mod Evaluated
pub mod First
pub mod Live
pub mod Resolved
pub mod Values
