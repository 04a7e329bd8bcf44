pub mod Fields
pub mod Messages
pub mod Kinds
pub mod Said
pub mod Words
pub mod Laws
