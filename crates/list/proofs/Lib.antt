pub mod Filling
pub mod Frames
pub mod Decoding
pub mod Told
pub mod Examples
pub mod Decided
