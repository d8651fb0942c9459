-- What the contracts of `frames` cite.
pub mod Shapes
