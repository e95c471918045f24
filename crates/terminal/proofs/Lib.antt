mod AdmittedLemmas
pub mod HeaderLemmas
pub mod MarkLemmas
pub mod PlayLemmas
pub mod RowLemmas
mod WidthLemmas
