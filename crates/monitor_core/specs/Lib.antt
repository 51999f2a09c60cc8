pub mod Batches
pub mod BookRules
pub mod Publishing
