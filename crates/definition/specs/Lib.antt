-- Document 01 as definitions, in its own order: the book, the refusals, states and let lists, how a block is made, tree words, walking, sets, the listing, answers.
pub mod Lists
pub mod Book
pub mod Tables
pub mod Bytes
pub mod Accept
pub mod Scope
pub mod Choice
pub mod Plan
pub mod Tree
pub mod Read
pub mod Walk
pub mod Bound
pub mod Sets
pub mod Listing
pub mod Answers
