pub mod Items
pub mod Named
pub mod Rows
pub mod Twice
pub mod Types
pub mod Uses
