pub mod Draws
pub mod Making
pub mod Fitting
pub mod MoreRows
pub mod Made
pub mod Scheduling
