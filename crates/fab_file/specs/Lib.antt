-- The definitions of fab_file, by file.
pub mod Place
pub mod PlaceFaults
pub mod Taken
pub mod Pinned
pub mod PinnedExamples
pub mod Written
pub mod ReadsBack
pub mod Examples
pub mod FaultTexts
pub mod MeaningExamples
