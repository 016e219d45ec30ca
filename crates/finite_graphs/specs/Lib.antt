pub mod Circles
pub mod Graphs
pub mod Numbering
pub mod Ranks
pub mod Reached
pub mod Rows
pub mod Searching
pub mod Walks
