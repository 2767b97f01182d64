-- How C is told an answer: document 01's number first. A reader begins here.
pub mod Kinds
pub mod Requests
pub mod Readings
pub mod Lists
pub mod Packs
