-- What `readreply` says of itself.
pub mod Usage
