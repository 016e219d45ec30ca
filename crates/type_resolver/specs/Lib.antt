pub mod Bodies
pub mod Resolves
pub mod Seen
pub mod Walking
