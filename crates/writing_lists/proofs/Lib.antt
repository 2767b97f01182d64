pub mod Frames
pub mod Cells
pub mod Degrees
pub mod Sensors
pub mod Decided
pub mod Examples
