-- Replies of one frame, as a board sends them. A reader begins here.
pub mod Replies
