pub mod Making
pub mod Composed
pub mod Shifts
pub mod MadeLaws
pub mod ManyLaws
