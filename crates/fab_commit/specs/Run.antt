-- What contracts say of the annealer that a run executes (our own).
pub mod Behind
pub mod Commits
pub mod Followed
pub mod Further
pub mod Foreseen
pub mod Noted
pub mod Owners
pub mod Pipelines
pub mod Points
pub mod Readings
pub mod Since
pub mod Turned
pub mod ByTurns
pub mod Stages
