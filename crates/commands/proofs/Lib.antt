pub mod CheckLemmas
pub mod JudgeLemmas
