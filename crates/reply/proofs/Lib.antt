pub mod Steps
pub mod Cutting
pub mod Examples
pub mod Decided
