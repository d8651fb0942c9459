-- What the contracts cite.
pub mod Acts
pub mod Bounds
pub mod Ends
