pub mod CommonLemmas
pub mod ConversionLemmas
pub mod Fractions
pub mod Sames
pub mod Joined
pub mod PrintedUtf8
