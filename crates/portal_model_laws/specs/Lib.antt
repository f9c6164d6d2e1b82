pub mod Answering
pub mod Everyday
pub mod FromRows
pub mod Laws
pub mod Limits
pub mod Records
pub mod References
