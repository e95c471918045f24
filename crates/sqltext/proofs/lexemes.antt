pub mod Quoted
pub mod Found
pub mod First
pub mod Cut
