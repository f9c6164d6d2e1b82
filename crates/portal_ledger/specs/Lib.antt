pub mod Fingerprint
pub mod Ledger
pub mod States
pub mod Calls
pub mod Replies
pub mod RequestRow
pub mod Laws
pub mod TestVectors
