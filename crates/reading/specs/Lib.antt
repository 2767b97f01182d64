pub mod Acknowledged
