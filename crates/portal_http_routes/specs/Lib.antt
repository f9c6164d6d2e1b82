pub mod Route
pub mod Targets
pub mod Table
pub mod Laws
pub mod Queries
