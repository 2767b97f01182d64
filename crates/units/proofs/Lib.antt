pub mod Fields
pub mod Pattern
pub mod Rounded
pub mod Values
pub mod Rounds
pub mod Meaning
pub mod Examples
pub mod Decided
