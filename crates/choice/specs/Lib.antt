-- What the contracts of `choice` cite beside the definition.
pub mod Worth
