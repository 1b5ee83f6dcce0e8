pub mod Only
pub mod Missing
pub mod Places
pub mod Growing
pub mod Answers
pub mod Written
pub mod Pieces
pub mod Splits
