pub mod OneFrame
pub mod Back
pub mod Written
pub mod Meeting
pub mod Examples
pub mod Auditor
