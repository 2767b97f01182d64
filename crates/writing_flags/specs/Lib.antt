-- Replies that carry flags, as a board sends them. A reader begins here.
pub mod Replies
pub mod Meant
