pub mod Asked
pub mod Layouts
pub mod Examples
pub mod Decided
