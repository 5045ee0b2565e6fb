-- The laws of contexts and places: what is settled whatever follows, the law over both, places within places, the table, and the same of the calls.
pub mod Settled
pub mod Steps
pub mod Heads
pub mod Written
pub mod Ruled
pub mod Judged
pub mod Contained
pub mod Begins
pub mod Less
pub mod Exact
pub mod RawContained
pub mod States
pub mod Nested
pub mod Matrix
pub mod Calls
