pub mod CounterLemmas
pub mod Crossing
