pub mod Boards
pub mod Sending
pub mod Hearing
pub mod Calls
pub mod Histories
pub mod Replies
