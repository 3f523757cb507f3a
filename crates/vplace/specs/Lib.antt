-- The definitions of vplace, by file.
pub mod Status
pub mod Asked
pub mod Files
pub mod Forecasts
pub mod Leaving
pub mod Foreseen
pub mod Placing
pub mod Resuming
pub mod Said
pub mod CommandLine
pub mod Given
pub mod Asking
pub mod CommandLineExamples
pub mod Done
pub mod FileChains
