pub mod MosfetStatus
