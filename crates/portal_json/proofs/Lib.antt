pub mod BatchesLemmas
pub mod Common
pub mod DetailsLemmas
pub mod ListedLemmas
pub mod ObjectLemmas
pub mod RedemptionLemmas
pub mod SessionLemmas
pub mod TextLemmas
