pub mod Parts
pub mod Made
pub mod Rows
pub mod Turns
pub mod Passes
pub mod Stages
pub mod Rooms
pub mod Together
