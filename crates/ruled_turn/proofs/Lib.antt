pub mod Totals
pub mod Members
pub mod Changed
pub mod Entries
pub mod Steps
pub mod Turning
pub mod Deals
pub mod Joining
