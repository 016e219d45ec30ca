pub mod FurtherIn
pub mod LayerLemmas
