pub mod HistoryLemmas
pub mod LatestLemmas
pub mod OrderLemmas
pub mod SameLemmas
pub mod SortingLemmas
pub mod StepLemmas
pub mod ToComeLemmas
pub mod TrackLemmas
