-- Laws of annealing one move at a time and of the model (our own). No run executes them.
pub mod Moves
pub mod Turns
pub mod Runs
pub mod EverySchedule
