pub mod CauseLemmas
mod AroundLemmas
mod PieceLemmas
pub mod ActiveLemmas
pub mod ReadLemmas
mod ForgettingLemmas
pub mod StretchLemmas
pub mod WalkLemmas
pub mod LedgerLemmas
pub mod MergedLemmas
mod RisingLemmas
pub mod OwedLemmas
pub mod CommitLemmas
pub mod RunLemmas
pub mod InstallLemmas
pub mod StepLemmas
mod Walks
mod ListedLemmas
