-- The reader's struct as the rules see it, what each function answers, and demand 3 of the code; `Steps` is what the private functions state.
pub mod View
pub mod Told
pub mod Cuts
pub mod Steps
pub mod Lent
