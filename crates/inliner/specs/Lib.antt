pub mod Children
pub mod Components
pub mod Extents
