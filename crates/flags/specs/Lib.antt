-- The replies of one frame that list many values: balance flags and faults. A reader begins here.
pub mod Balance
pub mod Faults
pub mod Noted
