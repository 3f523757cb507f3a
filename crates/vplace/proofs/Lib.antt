pub mod Ends
pub mod Heard
pub mod Stopping
pub mod Chains
pub mod Foreseen
mod Once
mod Telling
pub mod Subcommands
pub mod WordsBack
