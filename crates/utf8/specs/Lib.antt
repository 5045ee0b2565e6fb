-- What the UTF-8 check tests.
pub mod Check
