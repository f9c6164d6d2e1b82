pub mod Common
pub mod FieldLemmas
pub mod RequestLemmas
pub mod LineLemmas
pub mod LineFeedLemmas
pub mod DecidedLemmas
pub mod ReadingLemmas
