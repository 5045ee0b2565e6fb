-- What its contracts say over the definitions of `rules`.
pub mod Finding
