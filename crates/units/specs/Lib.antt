-- What the floats of a record mean, and what `SetSoc` sends, by IEEE 754. A reader begins here.
pub mod Floats
pub mod SetSoc
