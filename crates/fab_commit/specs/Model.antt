-- The model: moves judged ahead as lists of events, and turns as such lists (our own). Contracts and tests speak of it; no run executes it.
pub mod World
pub mod Worlds
pub mod WorldExamples
pub mod History
pub mod Stamps
pub mod TurnEvents
pub mod Turns
pub mod TurnExamples
