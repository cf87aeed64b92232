pub mod Directions
pub mod Refusals
pub mod Heads
pub mod Claims
pub mod Chain
