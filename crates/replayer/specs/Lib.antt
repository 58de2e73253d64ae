pub mod Lines
pub mod Traces
pub mod Reader
pub mod Printed
pub mod Replaying
pub mod Standing
pub mod Runs
