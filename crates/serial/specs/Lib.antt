pub mod Laws
pub mod Backups
pub mod Serializable
