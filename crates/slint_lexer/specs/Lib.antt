pub mod Found
pub mod Lexing
pub mod Names
pub mod Pieces
pub mod Reading
pub mod Spelled
pub mod Symbols
