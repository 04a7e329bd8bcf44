pub mod Readers
pub mod Values
pub mod Rows
