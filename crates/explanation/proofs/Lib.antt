mod Events
mod Asked
mod Running
pub mod Longest
pub mod Parts
