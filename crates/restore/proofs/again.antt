pub mod Catalog
pub mod Spelling
pub mod RowLines
pub mod Rows
pub mod Lines
pub mod Tables
pub mod Dump
