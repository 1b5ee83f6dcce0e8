pub mod Range
pub mod Answer
pub mod Comparing
pub mod Marked
