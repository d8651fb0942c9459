-- The proofs of `plan`.
pub mod Rooting
pub mod Deciding
pub mod Callers
