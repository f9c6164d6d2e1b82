pub mod Common
mod PrintLemmas
pub mod ServingLemmas
pub mod TurnLemmas
