mod Asked
pub mod Leaving
pub mod Longest
