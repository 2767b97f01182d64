-- The reader's rules in document 01's order: a turn, all turns, the reader, and demand 3. A reader begins with `Rules`.
pub mod Rules
pub mod Ledger
pub mod Reader
pub mod Demand
pub mod Gathered
