pub mod Replies
pub mod Returning
