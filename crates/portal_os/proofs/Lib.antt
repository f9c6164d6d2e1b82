pub mod AloneLemmas
pub mod Common
pub mod CopyingLemmas
pub mod OpeningLemmas
pub mod ClosingLemmas
pub mod ImageLemmas
pub mod LeftLemmas
mod LifeLemmas
pub mod LookingLemmas
