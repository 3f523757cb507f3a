-- The definitions of fab_dial, by file.
pub mod Models
pub mod Rule
pub mod Shown
