pub mod BaseWalks
pub mod DeclarerLists
pub mod FirstNumbers
pub mod Given
pub mod Listed
pub mod Numbered
pub mod Walks
