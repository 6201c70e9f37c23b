pub mod AnswerLaws
pub mod StandsLaws
pub mod PlaceLaws
pub mod WhyLaws
