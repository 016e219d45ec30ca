pub mod ColourNames
pub mod Grammar
pub mod Parts
pub mod Reading
pub mod Typed
pub mod Words
