pub mod Frame
pub mod Linear
pub mod Twelve
pub mod Directories
pub mod Stages
