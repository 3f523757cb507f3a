pub mod Accepted
pub mod Sides
pub mod Standing
pub mod Perimeter
