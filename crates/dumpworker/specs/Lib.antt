pub mod Drawn
pub mod Dumped
pub mod Shelved
