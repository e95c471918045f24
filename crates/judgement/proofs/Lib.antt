pub mod CountLemmas
pub mod JsonLemmas
pub mod JudgedLemmas
pub mod PlaceLemmas
