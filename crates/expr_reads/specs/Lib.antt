pub mod Items
pub mod ItemsMayName
pub mod MayName
pub mod Names
