mod ComingLemmas
mod FirstLemmas
mod OverlayLemmas
mod UnchangedLemmas
mod MergeLemmas
mod AheadLemmas
