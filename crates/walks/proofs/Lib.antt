pub mod Again
pub mod Closing
pub mod Data
pub mod Edges
pub mod Lent
pub mod Locals
pub mod Loops
