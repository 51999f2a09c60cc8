pub mod FaultLemmas
pub mod RunLemmas
pub mod WatchedLemmas
