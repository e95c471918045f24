pub mod Beginnings
pub mod Counting
mod CursorLemmas
mod EachOnce
mod Gathering
mod OrderedLemmas
mod SetupLemmas
mod TrailLemmas
pub mod Noted
pub mod Joined
pub mod Stretches
mod Counts
pub mod Held
pub mod Factorials
pub mod Number
pub mod Leading
mod Once
mod Shares
pub mod Turns
pub mod Drawn
pub mod Lines
pub mod Ranks
pub mod ListingTexts
