pub mod Histories
pub mod Workers
pub mod Races
