pub mod Naming
pub mod Seen
mod Sessions
mod Commands
mod Ends
mod Sending
