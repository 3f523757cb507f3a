-- The definitions of fab_cost, by file.
pub mod Cost
pub mod Boxes
pub mod Edges
pub mod Swapping
pub mod Changes
pub mod SizedRows
pub mod Runs
pub mod SwapViews
pub mod Near
