pub mod Boxes
pub mod Middles
pub mod Visits
pub mod Claims
