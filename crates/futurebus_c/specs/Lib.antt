pub mod Texts
pub mod Collected
pub mod Given
