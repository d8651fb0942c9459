-- What the contracts of `order` cite beside the definition.
pub mod Parts
