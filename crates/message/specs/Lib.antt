pub mod Mti
pub mod Messages
pub mod Reading
pub mod Writing
pub mod Saying
