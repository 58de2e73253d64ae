pub mod Spelling
pub mod Members
pub mod RowLemmas
pub mod CellsFit
