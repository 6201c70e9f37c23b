pub mod PlacesLaws
pub mod TemplateLaws
