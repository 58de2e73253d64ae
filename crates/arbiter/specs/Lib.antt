pub mod Contests
pub mod Raised
