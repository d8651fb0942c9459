-- What the answer of `list` tells its caller.
use mathlib.Core.Path.{◌≡◌, refl, sym, ◌∙◌, ap}
use mathlib.Core.Bool.{Bool, true, false}
use mathlib.Core.List.{List, ◌++◌}
use mathlib.Core.Option.{Option, none, some}
use Prim.Native.Nat.{ℕ, ◌≤◌}
use native.Mathlib.Omega.{arith}
use lib.Dec.{leb}
use lib.ListN.{length, drop, length-append}
use Rattle.std.specs.Prelude.{Result, Ok}
use Rattle.definition.specs.Tree.{Block}
use Rattle.definition.specs.Read.{read_block}
use Rattle.definition.specs.Listing.{listing}
use Rattle.definition.specs.Answers.{refused, answered, written, list_read, listed}
use Rattle.refusal.specs.declared.Refusal.{Refusal}
use Rattle.refusal.specs.Numbers.{told}
use Rattle.listing.specs.Ends.{Leaves}

-- as many bytes as are written stand in the text
inside : (t l m : List ℕ) (n : ℕ) → answered n ≡ (written t l).answer → m ≡ (written t l).room → n ≤ length m
unfolding written
inside t l m n p q = go (leb (length t) (length l)) refl
  where
    go : (b : Bool) → leb (length t) (length l) ≡ b → n ≤ length m
    go true e =
        let a : answered n ≡ answered (length t) = p ∙ rw e in
        let k : n ≡ length t = cc in
        let g : m ≡ t ++ drop (length t) l = q ∙ rw e in
        omega (arith, ap length g, length-append t (drop (length t) l))
    go false e = let a : answered n ≡ refused 9 = p ∙ rw e in cc

pub bytes_inside : (words text : List ℕ) {r : Result ℕ Refusal} {m : List ℕ} (n : ℕ) → Leaves (listed words text) r m → r ≡ Ok n → n ≤ length m
unfolding listed
bytes_inside words text {r} {m} n v e = go (read_block 9 words) (sym (ap (told (λ k. k)) e) ∙ v.answer) v.text
  where
    go : (o : Option (Block × List ℕ)) → answered n ≡ (list_read text o).answer → m ≡ (list_read text o).room → n ≤ length m
    go none p q = cc
    go (some x) p q = inside (listing x.0) text m n p q
