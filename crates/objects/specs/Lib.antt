pub mod Did
pub mod Composed
pub mod DidLaws
pub mod ComponentsLaws
pub mod SeenLaws
pub mod RepeatLaws
