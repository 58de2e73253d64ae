pub mod Finite
pub mod Events
