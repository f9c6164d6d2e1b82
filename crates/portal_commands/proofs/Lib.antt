pub mod Common
pub mod OrderLemmas
pub mod AskLemmas
pub mod AnswerLemmas
pub mod Returned
pub mod SessionLemmas
