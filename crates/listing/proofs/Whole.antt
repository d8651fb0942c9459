-- The public call, from what `read` tells of the words.
use mathlib.Core.Path.{◌≡◌, refl, sym, ap, subst, ◌∙◌}
use mathlib.Core.Bool.{false, true≢false}
use mathlib.Core.List.{List}
use mathlib.Core.Option.{Option, none, some}
use Prim.Native.Nat.{ℕ, ◌<◌, ◌≤◌}
use native.Mathlib.Omega.{arith}
use lib.ListN.{length, replicate}
use borrow.Author.Tests.{lt-leb, le-leb}
use Rattle.std.specs.Borrow.{Bor}
use Rattle.std.specs.Prelude.{Ok, Err}
use Rattle.std.specs.Prelude as rust
use Rattle.definition.specs.Tree.{Block}
use Rattle.definition.specs.Read.{read_block}
use Rattle.definition.specs.Listing.{listing}
use Rattle.definition.specs.Answers.{answered, written, list_read, listed}
use Rattle.refusal.specs.declared.Refusal.{Refusal}
use Rattle.room.specs.declared.Writer.{Writer}
use Rattle.room.specs.Wrote.{Wrote, Writes, after_all}
use Rattle.room.proofs.Written.{whole_fits, writes_all}
use Rattle.reading.specs.Ends.{Ends, ends}
use Rattle.listing.specs.Ends.{Leaves, is_some}

not_read : {A : Type 0} (o : Option A) → false ≡ is_some o → o ≡ none
not_read none e = refl
not_read (some a) e = absurd (true≢false (sym e))

-- a tree that was read, and its text that was written
pub told_some : {o p : Writer ℕ} {r : Option (Block × List ℕ)} {s : rust.Option (Bor (List ℕ))} {rest : Bor (List ℕ)}
    → Ends (λ k. after_all o (listing k)) r s p → s ≡ rust.Some rest
    → (k : Block) × (r ≡ some (k, rest.now)) × Writes o (listing k) p
told_some {o} {p} {r} {s} g e =
    let t = subst (λ v. ends (λ k. after_all o (listing k)) r p v) e g.is in
    (t.0, t.1, subst (λ v. Writes o (listing t.0) v) (sym t.2) (writes_all o (listing t.0)))

module _ (ws l : List ℕ) where
  pub no_tree : false ≡ is_some (read_block 9 ws) → Leaves (listed ws l) (Err Refusal.Tree) l
  unfolding listed
  no_tree e =
      let n = not_read (read_block 9 ws) e in
      record { answer = rw n; text = rw n }

  -- o is a writer at the text's front, and p after it wrote the tree k; m is the text then
  module _ {o p : Writer ℕ} {k : Block} {rest : List ℕ} (b : o.room.now ≡ l) (z : o.at ≡ 0) (e : read_block 9 ws ≡ some (k, rest))
      (v : Writes o (listing k) p) where
    is_written : listed ws l ≡ written (listing k) l
    unfolding listed
    is_written = ap (list_read l) e

    wrote : Wrote l 0 (listing k) p.at p.room.now
    wrote = rw (← b, ← z) (v.is (omega (arith, z)))

    pub lists : p.at ≤ length p.room.now → {m : List ℕ} → m ≡ p.room.now → Leaves (listed ws l) (Ok p.at) m
    unfolding written
    lists h {m} r =
        let n : length (listing k) ≤ length l = omega (arith, wrote.next, wrote.size) in
        let f = whole_fits wrote n in
        record {
          answer = rw (is_written, le-leb (length (listing k)) (length l) n) (ap answered f.0);
          text = rw (is_written, le-leb (length (listing k)) (length l) n) (r ∙ f.1);
        }

    pub too_long : length p.room.now < p.at → {m : List ℕ} → m ≡ replicate (length p.room.now) 0
        → Leaves (listed ws l) (Err Refusal.Room) m
    unfolding written
    too_long h {m} r =
        let n : length l < length (listing k) = omega (arith, wrote.next, wrote.size) in
        record {
          answer = rw (is_written, lt-leb (length (listing k)) (length l) n);
          text = rw (is_written, lt-leb (length (listing k)) (length l) n) (r ∙ ap (λ x. replicate x 0) wrote.size);
        }
