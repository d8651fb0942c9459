-- Frames of blocks, and how many blocks a book has.
use Rattle.std.specs.Prelude.{ℕ, ◌+◌, ◌*◌, ◌/◌, ◌≤◌, List, length}
use Rattle.definition.specs.Book.{most}
use Rattle.definition.specs.Bytes.{Frame}

abbrev pub frame_with : ℕ → ℕ → ℕ → Frame
frame_with k c u = record { kind = k; count = c; used = u }

-- the blocks of a book of S sites and R rules
abbrev pub blocks_in : ℕ → ℕ → ℕ
blocks_in S R = 1 + (S + 41) / 42 + (R + 6) / 7

-- S sites and R rules are few, and their blocks are there
pub record Sizes (b : List ℕ) (S R : ℕ) : Type 0 where
  pub sites : S ≤ most
  pub rules : R ≤ most
  pub site_room : 512 * (1 + (S + 41) / 42) ≤ length b
  pub room : 512 * blocks_in S R ≤ length b
