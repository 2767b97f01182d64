-- `readreply` as a function of its input's bytes. A reader begins with `Output`.
pub mod Output
pub mod Input
