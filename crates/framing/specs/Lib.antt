pub mod Files
pub mod Kinds
pub mod Shown
pub mod Lines
pub mod Steps
