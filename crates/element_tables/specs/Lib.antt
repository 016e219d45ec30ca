pub mod Functions
pub mod Keys
pub mod Members
pub mod Operands
pub mod Operators
pub mod Rows
pub mod Types
