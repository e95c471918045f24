mod DoomLemmas
pub mod FindLemmas
mod PastLemmas
mod WalkLemmas
mod DrawnLemmas
mod WordLemmas
pub mod told
