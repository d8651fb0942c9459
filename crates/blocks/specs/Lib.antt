-- What the contracts of `blocks` cite beside the definition.
pub mod Accepted
pub mod Work
pub mod Made
