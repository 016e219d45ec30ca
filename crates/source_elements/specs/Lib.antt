pub mod Elements
pub mod Views
