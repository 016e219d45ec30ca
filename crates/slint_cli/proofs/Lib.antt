mod FewLines
pub mod Judged
pub mod LineRuns
pub mod NameLookups
pub mod RunEnds
pub mod ScriptTaken
pub mod Sources
