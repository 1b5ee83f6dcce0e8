pub mod Lists
pub mod Repeats
pub mod Marks
