pub mod Judgement
pub mod Kinds
pub mod Nodes
pub mod Typing
pub mod Verdicts
