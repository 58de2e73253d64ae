pub mod Settled
pub mod Named
pub mod Spelled
pub mod Behind
pub mod Numbers
pub mod LineLengths
pub mod ShortWords
pub mod ShortTexts
