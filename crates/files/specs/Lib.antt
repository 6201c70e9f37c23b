pub mod Filing
pub mod Scan
pub mod LiesLaws
pub mod ObjectsLaws
