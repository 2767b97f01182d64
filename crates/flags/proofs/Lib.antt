pub mod Noting
pub mod Framed
pub mod Examples
pub mod Decided
