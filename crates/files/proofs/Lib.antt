pub mod FillLaws
pub mod ScanLaws
pub mod NameLaws
pub mod HolderLaws
pub mod EntryLaws
