pub mod Good
pub mod Walk
pub mod Longest
mod Running
