pub mod Good
pub mod Loading
pub mod Texts
pub mod Outcomes
pub mod Running
pub mod Started
pub mod Longest
pub mod Parts
