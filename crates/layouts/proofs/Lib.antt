pub mod ServiceLaws
pub mod AcceptLaws
