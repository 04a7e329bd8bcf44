pub mod Calls
pub mod Numerals
pub mod Names
pub mod Asked
pub mod Laws
