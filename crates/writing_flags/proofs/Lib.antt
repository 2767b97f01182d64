pub mod BalanceBack
pub mod FaultsBack
pub mod Examples
pub mod Decided
