-- The many-valued replies: what a decoder of lists answers and leaves, and the lists of numbered frames. A reader begins here.
pub mod Listed
pub mod Numbered
pub mod Cells
pub mod Judged
pub mod Kinds
