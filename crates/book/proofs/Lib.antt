-- Laws that the proofs of `book` share.
pub mod Recording
pub mod Replies
