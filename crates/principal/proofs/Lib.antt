pub mod Shapes
pub mod Voices
pub mod Inputs
