pub mod Serves
pub mod Words
pub mod Asides
pub mod Typed
