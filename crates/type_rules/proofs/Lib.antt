pub mod FieldIndexes
pub mod FieldLemmas
pub mod SameIs
