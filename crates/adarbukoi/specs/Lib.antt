pub mod Exports
pub mod Refining
