pub mod Answer
pub mod First
pub mod Layout
pub mod Place
pub mod Whole
