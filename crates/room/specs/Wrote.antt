-- What a writer leaves in a room. Behind the room's end nothing is stored, and the position stays one past it.
use Rattle.std.specs.Prelude.{◌≡◌, List, [], ◌∷◌, ℕ, ◌+◌, ◌≤◌, min, length, set}
use Rattle.std.proofs.lemmas.List.Edits.{sets}
use Rattle.room.specs.declared.Writer.{Writer}

module _ {A : Type 0} where
  -- the items w from `at` on, in the room l: r is the next position, m the room after them
  pub record Wrote (l : List A) (at : ℕ) (w : List A) (r : ℕ) (m : List A) : Type 0 where
    pub next : r ≡ min (at + length w) (length l + 1)
    pub room : at + length w ≤ length l → m ≡ sets l at w
    pub size : length m ≡ length l

  -- its position is in the room, or one past its end
  abbrev pub Inside : Writer A → Type 0
  Inside o = o.at ≤ length o.room.now + 1

  -- the writer o after one item x, and after the items w
  abbrev pub after_one : Writer A → A → Writer A
  after_one o x = record {
    room = record { ref_ptr = o.room.ref_ptr; ghost_name = o.room.ghost_name; now = set o.room.now o.at x };
    at = min (o.at + 1) (length o.room.now + 1);
  }

  abbrev pub after_all : Writer A → List A → Writer A
  after_all o [] = o
  after_all o (x ∷ w) = after_all (after_one o x) w

  -- p is the writer o after it put one item x
  pub record Puts (o : Writer A) (x : A) (p : Writer A) : Type 0 where
    pub exact : p ≡ after_one o x
    pub next : p.at ≡ min (o.at + 1) (length o.room.now + 1)
    pub room : p.room.now ≡ set o.room.now o.at x
    pub same : p.room.ghost_name ≡ o.room.ghost_name

  -- the writer o with x in place of what stood at `at`
  abbrev pub patched : Writer A → ℕ → A → Writer A
  patched o at x = record { room = record { ref_ptr = o.room.ref_ptr; ghost_name = o.room.ghost_name; now = set o.room.now at x }; at = o.at }

  -- p is that writer
  pub record Patches (o : Writer A) (at : ℕ) (x : A) (p : Writer A) : Type 0 where
    pub exact : p ≡ patched o at x
    pub next : p.at ≡ o.at
    pub room : p.room.now ≡ set o.room.now at x
    pub same : p.room.ghost_name ≡ o.room.ghost_name

  -- p is the writer o after it wrote the items w
  pub record Writes (o : Writer A) (w : List A) (p : Writer A) : Type 0 where
    pub exact : p ≡ after_all o w
    pub is : Inside o → Wrote o.room.now o.at w p.at p.room.now
    pub same : p.room.ghost_name ≡ o.room.ghost_name
