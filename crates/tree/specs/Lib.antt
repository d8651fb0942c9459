-- What the contract of `tree` cites beside the definition.
pub mod Patterns
