-- Laws of frames.
pub mod Framing
