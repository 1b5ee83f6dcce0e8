pub mod Files
pub mod Kinds
pub mod Lines
pub mod Calls
