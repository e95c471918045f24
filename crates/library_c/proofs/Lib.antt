pub mod OpeningLemmas
pub mod Values
