-- Laws of marks: none, one more, a run of them, and the step from a site to those below it.
use Prim.Native.Nat.{ℕ, zero, suc, ◌+◌, ◌≤◌, ◌<◌}
use mathlib.Core.Path.{◌≡◌, refl, sym, ap, ◌∙◌}
use mathlib.Core.Bool.{Bool, true, false, ◌&&◌}
use mathlib.Core.List.{List, [], ◌∷◌, ◌++◌, map}
use native.Mathlib.Omega.{arith}
use native.Mathlib.Decide.{ℕ_discrete}
use lib.ListN.{length, get_or, set, replicate, length-set}
use lib.Seq.{get_or-set_same, get_or-set_other}
use Rattle.definition.specs.Lists.{◌implies◌, upto, all}
use Rattle.laws.specs.Tests.{same_test, and, both, implies_true}
use Rattle.laws.specs.Answers.{and-true, and_assoc}
use Rattle.laws.specs.Ranges.{upto_more}
use Rattle.laws.specs.Turns.{all_append, map_more, upto_at, upto_all}
use Rattle.checks.specs.Marks.{good_if_marked, pending, Marked}

pub pending_none : (good : ℕ → Bool) (n q : ℕ) → pending good (replicate n false) q ≡ true
unfolding pending good_if_marked
pending_none good n q = upto_all (good_if_marked good (replicate n false)) q (λ k l. rw (zeros n k))
  where
    zeros : (n k : ℕ) → get_or (replicate n false) k false ≡ false
    zeros zero k = refl
    zeros (suc n) zero = refl
    zeros (suc n) (suc k) = zeros n k

-- one more mark
pub mark_one : (good : ℕ → Bool) (m : List Bool) (q x : ℕ) → x < q → q ≤ length m → pending good (set m x true) q ≡ pending good m q && good x
unfolding pending good_if_marked
mark_one good m q x h l =
    same_test (all (good_if_marked good (set m x true)) (upto q)) (all (good_if_marked good m) (upto q) && good x)
    (λ e. let g : good x ≡ true = at_x e in
    and (upto_all (good_if_marked good m) q (λ y k. elim (ℕ_discrete y x) [
      | yes z ↦ ap (λ (t : Bool). get_or m y false implies t) (ap good z ∙ g) ∙ implies_true (get_or m y false)
      | no z ↦ rw (get_or-set_other m x y true false z) at (upto_at (good_if_marked good (set m x true)) q y e k)
    ])) g)
    (λ e. let b = both (all (good_if_marked good m) (upto q)) (good x) e in
    upto_all (good_if_marked good (set m x true)) q (λ y k. elim (ℕ_discrete y x) [
      | yes z ↦ ap (λ (t : Bool). get_or (set m x true) y false implies t) (ap good z ∙ b.1) ∙ implies_true (get_or (set m x true) y false)
      | no z ↦ rw (get_or-set_other m x y true false z) (upto_at (good_if_marked good m) q y b.0 k)
    ]))
  where
    at_x : all (good_if_marked good (set m x true)) (upto q) ≡ true → good x ≡ true
    at_x e = rw (get_or-set_same m x true false (omega arith)) at (upto_at (good_if_marked good (set m x true)) q x e h)

-- a step down past site q
pub pending_down : (good : ℕ → Bool) (m : List Bool) (q : ℕ) → pending good m (q + 1) ≡ pending good m q && good_if_marked good m q
unfolding pending
pending_down good m q =
    ap (all (good_if_marked good m)) (upto_more q)
    ∙ all_append (good_if_marked good m) (upto q) (q ∷ [])
    ∙ ap (λ (t : Bool). all (good_if_marked good m) (upto q) && t) (and-true (good_if_marked good m q))

-- RUNS of marks
pub marked_nothing : (q : ℕ) (m : List Bool) → Marked q [] m m
marked_nothing q m = record { size = refl; judged = λ good. sym (and-true (pending good m q)) }

pub marked_more : {q : ℕ} {m m' : List Bool} (f : ℕ → ℕ) (k : ℕ) → Marked q (map f (upto k)) m m' → f k < q → q ≤ length m' → Marked q (map f (upto (k + 1))) m (set m' (f k) true)
marked_more {q} {m} {m'} f k h l r = record {
  size = length-set m' (f k) true ∙ h.size;
  judged = λ good.
      mark_one good m' q (f k) l r
      ∙ ap (λ (t : Bool). t && good (f k)) (h.judged good)
      ∙ sym (and_assoc (pending good m q) (all good (map f (upto k))) (good (f k)))
      ∙ ap (λ (t : Bool). pending good m q && t)
      (ap (λ (t : Bool). all good (map f (upto k)) && t) (sym (and-true (good (f k)))) ∙ sym (ap (all good) (map_more f k) ∙ all_append good (map f (upto k)) (f k ∷ [])));
}

pub marked_then : {q : ℕ} {xs ys : List ℕ} {l m n : List Bool} → Marked q xs l m → Marked q ys m n → Marked q (xs ++ ys) l n
marked_then {q} {xs} {ys} {l} h g = record {
  size = g.size ∙ h.size;
  judged = λ good.
      g.judged good
      ∙ ap (λ (t : Bool). t && all good ys) (h.judged good)
      ∙ sym (and_assoc (pending good l q) (all good xs) (all good ys))
      ∙ ap (λ (t : Bool). pending good l q && t) (sym (all_append good xs ys));
}

-- the same marks said of another list that is judged alike
pub marked_as : {q : ℕ} {xs ys : List ℕ} {l m : List Bool} → Marked q xs l m → ((good : ℕ → Bool) → all good xs ≡ all good ys) → Marked q ys l m
marked_as {q} {xs} {ys} {l} h e = record { size = h.size; judged = λ good. h.judged good ∙ ap (λ (t : Bool). pending good l q && t) (e good) }
