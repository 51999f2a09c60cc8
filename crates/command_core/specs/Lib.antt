pub mod CommandLine
pub mod Seeds
pub mod Shown
