pub mod Common
pub mod ResponseLemmas
pub mod SpareLemmas
pub mod ServeLemmas
pub mod RunLemmas
pub mod Lines
pub mod HeadlineLemmas
pub mod ExecutionCommon
pub mod AnsweredLemmas
pub mod SessionLemmas
pub mod ExecutionLemmas
pub mod Readings
mod SortedOnce
mod ListedOnce
mod RepliedOnce
pub mod ExchangeLemmas
