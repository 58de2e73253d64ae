pub mod RunLines
pub mod Lines
pub mod RunText
pub mod Printing
pub mod Lengths
