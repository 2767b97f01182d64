-- What document 02, K2, promises of written replies: they are read back, and the reader meets them. A reader begins with `ReadBack`.
pub mod Meant
pub mod ReadBack
pub mod Met
