-- The definitions of fab_sched, by file.
pub mod Annealing
pub mod Examples
pub mod FaultTexts
pub mod Roots
