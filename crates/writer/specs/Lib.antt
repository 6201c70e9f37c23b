pub mod MakingFiles
pub mod Composed
