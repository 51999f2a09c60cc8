pub mod AddLemmas
pub mod BatchLemmas
pub mod PrefixLemmas
