-- Laws of what a writer leaves in a room.
pub mod Written
