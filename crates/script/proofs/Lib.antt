pub mod CutLemmas
pub mod LineLemmas
pub mod NumberLemmas
pub mod SaidLemmas
pub mod TextLemmas
