pub mod Meters
pub mod Calls
pub mod Shares
