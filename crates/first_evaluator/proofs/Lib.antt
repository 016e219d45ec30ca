pub mod AllOf
pub mod EvaluatedValues
pub mod ResolvedSums
