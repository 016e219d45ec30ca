pub mod First
mod Numbered
pub mod Told
