pub mod TraceWords
