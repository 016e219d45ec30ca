pub mod BareForms
pub mod InOrder
pub mod PrintedForms
pub mod PrintedUtf8
pub mod WrittenUtf8
