pub mod CuttingLemmas
pub mod LineLemmas
pub mod PieceLemmas
pub mod PlanLemmas
pub mod TextLemmas
