pub mod Cubes
pub mod Falling
