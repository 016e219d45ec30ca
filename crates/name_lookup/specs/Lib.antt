pub mod Asking
pub mod Leads
pub mod Names
pub mod Paths
