pub mod Answering
mod Bits
mod Carrying
mod Columns
mod Entering
mod Falling
mod Finding
mod Firsts
mod Fitting
mod Following
mod Going
mod InBounds
mod Kept
mod Keys
mod Leaving
pub mod Lending
mod Lowering
mod Marks
mod Naming
mod Occurring
pub mod PastTheCount
mod Places
mod PortByPort
mod Same
mod SameNumbers
mod Sends
mod SizePut
mod Sizing
mod Skips
mod Stands
mod Stepping
mod Testing
mod Wanted
