pub mod Rejection
pub mod Seeds
pub mod Issues
pub mod Callers
pub mod Bodies
pub mod Queries
pub mod Checks
pub mod Laws
