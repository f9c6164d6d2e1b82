pub mod Streams
pub mod Errors
pub mod Ends
pub mod Serving
pub mod Asks
pub mod Command
pub mod Turns
pub mod Loopback
