pub mod Why
pub mod WhyCases
pub mod WhyFacts
pub mod OffsetLaws
pub mod BookRecords
pub mod Whys
pub mod RowFacts
pub mod Item7
