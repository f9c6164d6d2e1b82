pub mod Common
pub mod SeekLemmas
pub mod TargetLemmas
pub mod SoundLemmas
pub mod QueryLemmas
