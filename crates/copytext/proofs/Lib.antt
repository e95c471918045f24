pub mod EscapeLemmas
pub mod WritingLemmas
pub mod FieldLemmas
pub mod ValueLemmas
pub mod EscapedLemmas
pub mod RoundTrip
pub mod ContentLemmas
