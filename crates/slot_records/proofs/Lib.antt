pub mod Places
pub mod Gathered
pub mod Together
pub mod Called
