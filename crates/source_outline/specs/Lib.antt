pub mod Doubling
pub mod Ends
pub mod Following
pub mod Laws
pub mod Marked
pub mod Members
pub mod Outlines
pub mod Slots
