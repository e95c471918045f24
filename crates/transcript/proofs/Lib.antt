pub mod GatherLemmas
pub mod OpeningLemmas
mod PlaceLemmas
pub mod ReadingLemmas
pub mod SessionLemmas
mod SpreadLemmas
pub mod TraceLemmas
