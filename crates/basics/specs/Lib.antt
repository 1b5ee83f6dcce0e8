pub mod Lists
pub mod Sets
pub mod Refusals
pub mod Since
