pub mod Numbers
pub mod Outcomes
pub mod Steps
pub mod Law
pub mod Faults
pub mod Terms
pub mod Cursors
