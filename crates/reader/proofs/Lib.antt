pub mod FrameLaws
pub mod LinearLaws
pub mod TwelveLaws
pub mod DirectoriesLaws
pub mod StageLaws
