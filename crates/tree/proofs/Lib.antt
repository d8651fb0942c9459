-- Laws of patterns.
mod ByKind
