pub mod Apart
pub mod Columns
pub mod Records
