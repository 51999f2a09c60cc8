pub mod HeldLemmas
pub mod RootLemmas
pub mod ServeLemmas
pub mod SpacingLemmas
pub mod StateRanges
pub mod VerdictLemmas
