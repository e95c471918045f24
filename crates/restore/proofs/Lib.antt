pub mod words
pub mod stepwise
pub mod faults
pub mod taking
pub mod again
