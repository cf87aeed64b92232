pub mod Cells
pub mod Fits
pub mod States
pub mod Starts
pub mod Steps
pub mod Runs
