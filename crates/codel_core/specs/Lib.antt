pub mod Heads
pub mod Held
pub mod Queue
pub mod Root
pub mod Schedule
pub mod Spacing
pub mod Verdict
