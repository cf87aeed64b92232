pub mod Three
pub mod Numbers
pub mod Points
pub mod Places
pub mod Frames
pub mod Claims
