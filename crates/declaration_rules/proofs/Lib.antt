pub mod Circling
pub mod Deciding
pub mod Exporting
pub mod Forms
pub mod Gathering
pub mod Telling
pub mod Using
pub mod Filing
