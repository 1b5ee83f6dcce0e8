pub mod Frames
pub mod Aliases
pub mod Joining
pub mod Splitting
pub mod Runs
