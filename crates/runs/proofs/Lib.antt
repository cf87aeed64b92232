pub mod Turns
pub mod Going
pub mod Lists
pub mod Seeing
pub mod Ending
