-- How a bench in C hands its values in, and is told what was written. A reader begins here.
pub mod Meant
pub mod Told
