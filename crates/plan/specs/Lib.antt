-- What the contracts of `plan` cite beside the definition.
pub mod Leaves
pub mod Determined
