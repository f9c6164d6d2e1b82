pub mod Common
pub mod QueryLemmas
pub mod RouteLemmas
pub mod CheckedOnce
pub mod NoStops
