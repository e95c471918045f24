pub mod Play
mod Worked
mod Legal
mod Pivots
mod Sources
