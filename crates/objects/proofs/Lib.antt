pub mod Auto
pub mod DueLaws
pub mod PartLaws
pub mod RowLaws
pub mod PathLaws
pub mod PasswordLaws
pub mod ConditionLaws
pub mod RuleLaws
