pub mod Asked
pub mod Grows
mod Holding
pub mod Stepped
