pub mod Alike
mod CauseLemmas
mod Committer
mod EachOf
mod Forgetting
mod Found
mod Kept
mod Mapped
mod Ordered
pub mod Places
pub mod Proper
pub mod Thinned
mod WalkedCause
mod WalkedDooms
mod WorldLemmas
