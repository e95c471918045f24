mod AddingLemmas
pub mod BatchLemmas
pub mod ChangingLemmas
pub mod ComingLemmas
pub mod FindLemmas
pub mod InsertingLemmas
mod KeyedLemmas
mod LevelsLemmas
pub mod ListedLemmas
pub mod LiteralLemmas
mod MadeLemmas
mod NamedLemmas
mod NextLemmas
pub mod PageLemmas
pub mod PagedLemmas
mod PutLemmas
pub mod RowsInOrder
pub mod PlainLemmas
pub mod SoundLemmas
pub mod WalkLemmas
pub mod WellFormedLemmas
