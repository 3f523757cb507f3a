-- The definitions of fab_commit, by file.
pub mod Serial
pub mod Run
pub mod Model
pub mod Laws
