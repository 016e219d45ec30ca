pub mod Bare
pub mod Printed
pub mod Spans
pub mod Writes
