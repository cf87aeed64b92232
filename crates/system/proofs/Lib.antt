pub mod Says
pub mod Sizes
pub mod Heads
pub mod Results
