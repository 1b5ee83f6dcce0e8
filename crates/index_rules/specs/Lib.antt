pub mod Index
pub mod Agreeing
pub mod Looking
pub mod Boxes
