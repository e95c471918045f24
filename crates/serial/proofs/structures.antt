pub mod Dooms
pub mod FirstUpdater
pub mod NoneDangerous
