-- What the answer of `plan` tells its caller.
use Rattle.std.specs.Prelude.{Result, Ok}
use mathlib.Core.Path.{◌≡◌, sym, ◌∙◌, ap}
use mathlib.Core.Logic.{◌⊎◌, inl, inr}
use mathlib.Core.Bool.{true, false}
use mathlib.Core.List.{List, ◌++◌}
use Prim.Native.Nat.{ℕ, ◌≤◌}
use native.Mathlib.Omega.{arith}
use lib.Dec.{eqb, leb}
use lib.ListN.{length, drop, length-append}
use Rattle.definition.specs.Bytes.{book_from, book_refusal}
use Rattle.definition.specs.Plan.{tree}
use Rattle.definition.specs.Tree.{words}
use Rattle.definition.specs.Answers.{refused, answered, written, planned}
use Rattle.laws.specs.Tests.{split}
use Rattle.refusal.specs.declared.Refusal.{Refusal}
use Rattle.refusal.specs.Numbers.{told}
use Rattle.plan.specs.Leaves.{Leaves}

not_both : {n k : ℕ} → answered n ≡ refused k → ⊥
not_both e = let z : ◌≡◌ {A = ℕ} 0 1 = cc in omega arith

same_count : {n k : ℕ} → answered n ≡ answered k → n ≡ k
same_count e = cc

-- as many words as it tells stand in the room
pub words_inside : (book room : List ℕ) {r : Result ℕ Refusal} {m : List ℕ} (n : ℕ) → Leaves (planned book room) r m → r ≡ Ok n → n ≤ length m
unfolding planned written
words_inside book room {r} {m} n v e = go (split (eqb (book_refusal book) 0)) (split (leb (length ws) (length room)))
  where
    ws : List ℕ
    ws = words (tree (book_from book))

    told_n : answered n ≡ (planned book room).answer
    told_n = sym (ap (told (λ k. k)) e) ∙ v.answer

    go : (eqb (book_refusal book) 0 ≡ true) ⊎ (eqb (book_refusal book) 0 ≡ false) → (leb (length ws) (length room) ≡ true) ⊎ (leb (length ws) (length room) ≡ false) → n ≤ length m
    go (inl p) (inl q) =
        let k : n ≡ length ws = same_count (told_n ∙ rw (p, q)) in
        let g : m ≡ ws ++ drop (length ws) room = v.room ∙ rw (p, q) in
        let l : length m ≡ length (ws ++ drop (length ws) room) = ap length g in
        let z = length-append ws (drop (length ws) room) in
        omega arith
    go (inl p) (inr q) = absurd (not_both {k = 9} (told_n ∙ rw (p, q)))
    go (inr p) q = absurd (not_both {k = book_refusal book} (told_n ∙ rw p))
