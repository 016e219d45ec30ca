pub mod Fronts
mod Lexed
mod Readings
