pub mod Basics
pub mod IsolationLemmas
pub mod LastWriter
pub mod MarkedWriters
pub mod Lists
pub mod LiteralLemmas
pub mod SerialLemmas
pub mod SortLemmas
pub mod Structures
mod IsolationExamples
