pub mod Sides
pub mod Lines
pub mod Inside
