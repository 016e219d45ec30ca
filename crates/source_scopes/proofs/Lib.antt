pub mod EnumNormal
pub mod Filling
pub mod Lookups
pub mod StableSorts
pub mod Typing
pub mod Whole
pub mod WrittenForms
