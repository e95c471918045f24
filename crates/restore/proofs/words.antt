pub mod Bytes
pub mod Texts
pub mod Create
pub mod Row
