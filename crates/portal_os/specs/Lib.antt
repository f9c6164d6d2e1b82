pub mod Copying
pub mod CrashImages
pub mod Errors
pub mod Laws
pub mod Left
pub mod Lives
pub mod Opening
pub mod Running
