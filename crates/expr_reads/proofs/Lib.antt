pub mod BlocksExact
pub mod Exact
pub mod Forms
pub mod ItemsExact
pub mod Listing
