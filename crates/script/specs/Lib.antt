pub mod Decimals
pub mod Split
pub mod Words
