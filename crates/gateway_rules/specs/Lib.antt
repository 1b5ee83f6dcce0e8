pub mod State
pub mod Step
pub mod History
pub mod Reasons
