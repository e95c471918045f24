pub mod Gathered
pub mod Offers
pub mod Sequenced
pub mod Written
