pub mod Counts
pub mod FileList
pub mod Files
pub mod Planned
pub mod Streams
pub mod Whole
