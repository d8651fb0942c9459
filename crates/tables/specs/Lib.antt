-- What the contracts of `tables` cite beside the definition.
pub mod Held
