-- Replies of numbered frames, as a board sends them. A reader begins here.
pub mod Numbered
pub mod Replies
