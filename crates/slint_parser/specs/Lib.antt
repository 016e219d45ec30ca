pub mod Readings
pub mod Starts
pub mod Members
pub mod Statements
pub mod Files
pub mod Values
pub mod Bodies
pub mod Heads
