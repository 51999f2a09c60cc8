pub mod ReportLemmas
pub mod TraceRunLemmas
