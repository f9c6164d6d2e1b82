pub mod Common
pub mod Filling
pub mod Keys
pub mod Ledgers
pub mod Repetitions
pub mod KnownByRow
pub mod Typed
pub mod UniqueKeys
