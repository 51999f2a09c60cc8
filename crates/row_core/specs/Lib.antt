pub mod Rows
pub mod Streams
pub mod Traces
