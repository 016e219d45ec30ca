pub mod Before
pub mod InTurn
