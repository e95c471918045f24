pub mod EmptyLemmas
pub mod HeldLemmas
pub mod OpeningLemmas
pub mod TurnLemmas
