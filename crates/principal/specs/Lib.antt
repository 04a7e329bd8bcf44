pub mod Spelled
pub mod Terms
pub mod Shapes
pub mod Words
pub mod Voices
pub mod Laws
