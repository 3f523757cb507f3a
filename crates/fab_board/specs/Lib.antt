-- The definitions of fab_board, by file.
pub mod Counts
pub mod Views
pub mod Dealt
pub mod Judged
pub mod Examples
pub mod OwnUnits
pub mod Plans
pub mod Posts
pub mod Follows
