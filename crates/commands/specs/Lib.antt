pub mod CheckWords
pub mod Checked
pub mod Statuses
