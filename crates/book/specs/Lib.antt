-- What the contracts of `book` cite.
pub mod Shapes
pub mod Reply
