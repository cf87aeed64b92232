pub mod Deep
pub mod Unchanged
