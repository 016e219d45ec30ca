pub mod Along
pub mod BackWays
pub mod ByEnds
pub mod KnownEnds
pub mod LastNames
pub mod Mapped
pub mod Outwards
pub mod TakerWalks
