pub mod Counts
pub mod Writing
pub mod Claims
