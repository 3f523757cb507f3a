-- Lemmas about the model that contracts speak of.
pub mod Happening
pub mod History
pub mod Noninterference
pub mod Backwards
pub mod Fewer
pub mod Schedules
pub mod Listing
pub mod Marked
pub mod Sitings
pub mod Changes
pub mod Stamps
pub mod TurnSteps
pub mod TurnLaws
pub mod RunBases
pub mod RunLaws
pub mod Proposing
pub mod Reasons
