pub mod BackingLemmas
pub mod CheckLemmas
pub mod ExploreLemmas
pub mod LinesLemmas
pub mod OutputLemmas
pub mod StandingLemmas
