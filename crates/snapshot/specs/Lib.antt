pub mod Overlaid
pub mod Merging
