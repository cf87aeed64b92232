-- What is claimed of the library, for a reader who opens nothing else but the definitions that are named here. Calls: lent memory and one call on it. Rules: 01's
-- "One visit" as facts. Demands: the customer's demands, of every call. Caller, Reached: that the calls are the caller's own. Program: that the desk
-- program prints such a call. Starred: 01's starred examples and its limits.
-- Meets: that nothing which the demands ask for is empty.
-- Both round trips of a system file stand in writing/specs/Claims: `WrittenBack` (read and written back) and `ReadBack` (written and read).
pub mod Calls
pub mod Rules
pub mod Demands
pub mod Caller
pub mod Reached
pub mod Program
pub mod Starred
pub mod Told
pub mod Meets
