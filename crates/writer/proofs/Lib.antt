pub mod BehindLaws
pub mod MakeEntryLaws
pub mod MakeTemplateLaws
pub mod RenderLaws
