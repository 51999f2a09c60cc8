pub mod HashLemmas
pub mod NumeralLemmas
pub mod PackedLemmas
pub mod PackedTupleLemmas
pub mod PowerLemmas
pub mod TextLemmas
pub mod WordLemmas
