pub mod Parts
pub mod Grammar
pub mod Trees
pub mod Made
pub mod Derivations
pub mod Faults
pub mod Stacks
