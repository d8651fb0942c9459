-- What the contracts of `line` cite.
pub mod Paths
pub mod Writes
