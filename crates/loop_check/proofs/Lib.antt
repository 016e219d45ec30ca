pub mod Deciding
pub mod Edges
pub mod Faults
pub mod Forms
pub mod Listing
pub mod Numbering
pub mod Spreading
