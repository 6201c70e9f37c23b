pub mod Card
pub mod Blocks
pub mod Without
pub mod Flags
pub mod Jumps
pub mod Fits
