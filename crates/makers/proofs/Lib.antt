pub mod LeafLaws
pub mod MakeConditionLaws
pub mod MakeCommonLaws
