pub mod Decimals
pub mod Stepping
pub mod Putting
pub mod Sizes
pub mod Lists
pub mod Finding
pub mod Room
