-- The definitions of fab_arch, by file.
pub mod Arch
pub mod Examples
pub mod FaultTexts
pub mod Grid
