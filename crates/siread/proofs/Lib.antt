pub mod AlikeLemmas
mod BoundLemmas
mod HeldLemmas
mod InnerLemmas
mod LocksLemmas
mod TallyLemmas
