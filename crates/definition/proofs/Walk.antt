-- One walk over the definition's trees: what is kept by each change that the definition makes is kept by every run of every call.
-- `Notes` has the form for world and notes alone (`Invariant`, `Closed`, `walked`), `Course` and `Runs` the one for operations,
-- answers and ends too (`Course`, `Steady`, `run_of-kept`).
pub mod Events
pub mod Course
pub mod Keeps
pub mod Answers
pub mod Calls
pub mod Runs
pub mod Notes
