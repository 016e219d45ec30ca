pub mod Items
pub mod Places
pub mod Sizes
pub mod Tracks
