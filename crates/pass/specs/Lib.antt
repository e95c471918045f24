pub mod Knowing
pub mod Rules
