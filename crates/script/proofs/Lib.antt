pub mod Decimals
pub mod Splitting
