pub mod Answer
pub mod Checkpoint
pub mod Events
pub mod Opening
pub mod Serial
pub mod Transactions
pub mod Needed
