pub mod Requests
pub mod Queries
