pub mod Giving
pub mod Named
pub mod Told
