pub mod Words
pub mod Tables
pub mod Generated
pub mod Schedule
