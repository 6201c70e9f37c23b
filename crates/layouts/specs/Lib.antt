pub mod Service
pub mod GivingLaws
pub mod Demands
pub mod Accept
