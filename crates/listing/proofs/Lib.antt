-- Laws of the lister, and of the text that it leaves.
mod Folds
mod Whole
pub mod Callers
