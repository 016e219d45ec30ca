pub mod Apart
pub mod KeyRuns
pub mod Undone
