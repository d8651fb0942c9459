-- The public call, from what `read` tells of the words.
use mathlib.Core.Path.{◌≡◌, refl, ap, ◌∙◌}
use mathlib.Core.Bool.{true, false}
use mathlib.Core.List.{List}
use mathlib.Core.Option.{Option, none, some}
use Prim.Native.Nat.{ℕ}
use lib.IntN.{ℤ}
use lib.ListN.{length}
use borrow.Author.Tests.{eq-eqb, ne_eqb}
use Rattle.std.specs.Prelude as rust
use Rattle.std.specs.Borrow.{Bor}
use Rattle.definition.specs.Accept.{smaller_than}
use Rattle.definition.specs.Read.{read_block}
use Rattle.definition.specs.Walk.{Reading, Hit, walk}
use Rattle.definition.specs.Answers.{refused, answered, one_length, covers, walk_read, walked}
use Rattle.reading.specs.Acts.{block_after}
use Rattle.reading.specs.Ends.{Ends}
use Rattle.walk.specs.declared.Walker.{Walker}
use Rattle.walk.specs.Walks.{acts, reading, stop_of}
use Rattle.walk.proofs.Folds.{later, steps_told}

stop_later : (o : Option Hit) → stop_of (later rust.None o) ≡ o
stop_later none = refl
stop_later (some h) = refl

-- before any part of the tree
abbrev pub fresh : Reading → Walker
fresh d = record { reading = d; known = true; stop = rust.None; here = true }

module _ (ws k : List ℕ) (z : List ℤ) (i : List ℕ) where
  pub differ : (length k ≡ length z → ⊥) → refused 10 ≡ walked ws (reading k z i)
  unfolding walked one_length
  differ e = rw (ne_eqb (length k) (length z) e)

  pub differ_ids : length k ≡ length z → (length k ≡ length i → ⊥) → refused 10 ≡ walked ws (reading k z i)
  unfolding walked one_length
  differ_ids e f = rw (eq-eqb (length k) (length z) e, ne_eqb (length k) (length i) f)

  module _ (e : length k ≡ length z) (f : length k ≡ length i) where
    read : walked ws (reading k z i) ≡ walk_read (reading k z i) (read_block 9 ws)
    unfolding walked one_length
    read = rw (eq-eqb (length k) (length z) e, eq-eqb (length k) (length i) f)

    module _ {w : Walker} where
      pub no_tree : Ends (block_after acts (fresh (reading k z i))) (read_block 9 ws) rust.None w → refused 11 ≡ walked ws (reading k z i)
      no_tree g = rw (read, g.is)

      module _ {rest : Bor (List ℕ)} (g : Ends (block_after acts (fresh (reading k z i))) (read_block 9 ws) (rust.Some rest) w) where
        known_is : w.known ≡ covers (reading k z i) g.is.0
        unfolding covers smaller_than
        known_is = ap (λ (q : Walker). q.known) (g.is.2 ∙ steps_told 1 (fresh (reading k z i)) g.is.0)

        stop_is : stop_of w.stop ≡ walk (reading k z i) g.is.0
        stop_is = ap (λ (q : Walker). stop_of q.stop) (g.is.2 ∙ steps_told 1 (fresh (reading k z i)) g.is.0) ∙ stop_later (walk (reading k z i) g.is.0)

        pub lacks : w.known ≡ false → refused 12 ≡ walked ws (reading k z i)
        lacks l = rw (read, g.is.1, ← known_is, l)

        pub walks : w.known ≡ true → answered (stop_of w.stop) ≡ walked ws (reading k z i)
        walks l = rw (read, g.is.1, ← known_is, l, stop_is)
