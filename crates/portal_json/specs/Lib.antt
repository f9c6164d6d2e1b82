pub mod Objects
pub mod Bodies
pub mod Orders
pub mod Listed
