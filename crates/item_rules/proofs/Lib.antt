pub mod Fields
pub mod OtherRows
pub mod RowWalks
pub mod Turns
