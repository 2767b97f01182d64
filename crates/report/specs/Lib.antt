-- What `readreply` prints after the input's end. A reader begins with `Report`.
pub mod Lines
pub mod Fields
pub mod Lists
pub mod Report
