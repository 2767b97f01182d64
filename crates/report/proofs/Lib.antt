pub mod Laws
pub mod Long
pub mod Examples
pub mod Decided
