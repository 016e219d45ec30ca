pub mod AddedNames
pub mod Places
