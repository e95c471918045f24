pub mod Handing
pub mod Judging
pub mod Opening
pub mod Owning
pub mod Preparing
pub mod Talking
pub mod Telling
