-- The definitions of fab_text, by file.
pub mod Decimal
pub mod Examples
pub mod Failures
pub mod FaultTexts
pub mod FirstFault
pub mod Fixed
pub mod Lines
pub mod LineWords
pub mod Numbering
pub mod Runs
pub mod Shown
pub mod Steps
