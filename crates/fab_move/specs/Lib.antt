-- The definitions of fab_move, by file.
pub mod Stream
pub mod Accept
pub mod Propose
pub mod Sides
pub mod Chosen
pub mod Judge
pub mod StampTables
pub mod KeptNets
