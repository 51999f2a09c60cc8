pub mod RecordLemmas
pub mod NumberLemmas
pub mod OctetLemmas
pub mod FourOctets
pub mod RowLemmas
