pub mod Half
pub mod Sums
pub mod Size
pub mod Side
