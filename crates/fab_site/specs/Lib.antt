-- The definitions of fab_site, by file.
pub mod Placement
pub mod Index
pub mod Draft
pub mod Free
pub mod Pins
pub mod Words
pub mod Start
pub mod Examples
