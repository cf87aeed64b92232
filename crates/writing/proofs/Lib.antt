pub mod Counting
pub mod Placing
pub mod Joining
pub mod Answering
pub mod Forth
pub mod ReadBack
pub mod WriteBack
pub mod Claims
