pub mod Weighing
pub mod Decided
pub mod Examples
