pub mod Acts
pub mod Bodies
pub mod Graphs
pub mod Numbers
pub mod Purity
