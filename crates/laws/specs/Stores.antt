-- Laws of runs of stores: `sets l i v` stores v into l from i on, and leaves out what would stand behind its end.
use Rattle.std.specs.Prelude.{◌≡◌, refl, List, [], ◌∷◌, ◌++◌, map, ℕ, suc, ◌+◌, ◌*◌, ◌≤◌, ◌<◌, length, set, take, drop}
use Rattle.std.proofs.Common.{sym, ◌∙◌, ap, append_assoc, arith, zero-add, add-zero, add-suc, suc-add}
use Rattle.std.proofs.lemmas.List.Edits.{sets, sets-eq}
use Rattle.std.proofs.lemmas.List.{set_comm}
use Rattle.std.proofs.Math.Seq.{take-append_seam}
use Rattle.definition.specs.Lists.{upto, flat}
use Rattle.laws.specs.Turns.{flat_more, flat_length, map_more, length_map_upto}

-- one run after another is one run
pub sets_append : (l : List ℕ) (i : ℕ) (u v : List ℕ) → sets (sets l i u) (i + length u) v ≡ sets l i (u ++ v)
sets_append l i [] v = ap (λ (k : ℕ). sets l k v) (add-zero i)
sets_append l i (a ∷ u) v =
    ap (λ (k : ℕ). sets (sets (set l i a) (suc i) u) k v) (add-suc i (length u) ∙ sym (suc-add i (length u)))
    ∙ sets_append (set l i a) (suc i) u v

-- three runs, each behind the one before
pub three_runs : (l : List ℕ) (i j k : ℕ) (u v w : List ℕ) → j ≡ i + length u → k ≡ j + length v → sets (sets (sets l i u) j v) k w ≡ sets l i (u ++ v ++ w)
three_runs l i j k u v w p q =
    ap (λ (n : ℕ). sets (sets (sets l i u) j v) n w) q
    ∙ sets_append (sets l i u) j v w
    ∙ ap (λ (n : ℕ). sets (sets l i u) n (v ++ w)) p
    ∙ sets_append l i u (v ++ w)
    ∙ ap (sets l i) (sym (append_assoc u v w))

-- a store in front of a run may as well come before it
pub set_sets : (l : List ℕ) (i j a : ℕ) (v : List ℕ) → i < j → set (sets l j v) i a ≡ sets (set l i a) j v
set_sets l i j a [] h = refl
set_sets l i j a (b ∷ v) h =
    set_sets (set l j b) i (suc j) a v (omega arith)
    ∙ ap (λ (m : List ℕ). sets m (suc j) v) (set_comm l j i b a (omega arith))

-- a run from the front on
pub sets_front : (l v : List ℕ) → length v ≤ length l → sets l 0 v ≡ v ++ drop (length v) l
sets_front l v h = sets-eq v l 0 (omega arith) ∙ ap (λ k. v ++ drop k l) (zero-add (length v))

-- the front of a store that a run filled
pub take_sets : (l u : List ℕ) (n : ℕ) → length u ≡ n → n ≤ length l → take n (sets l 0 u) ≡ u
take_sets l u n e h =
    ap (take n) (sets-eq u l 0 (omega arith))
    ∙ ap (λ (k : ℕ). take k (u ++ drop (0 + length u) l)) (sym e)
    ∙ take-append_seam u (drop (0 + length u) l)

-- records of m words, one after another from i on: one more
pub records_more_at : (l : List ℕ) (i : ℕ) (f : ℕ → List ℕ) (m k : ℕ) → ((j : ℕ) → length (f j) ≡ m)
    → sets (sets l i (flat f (upto k))) (i + m * k) (f k) ≡ sets l i (flat f (upto (k + 1)))
records_more_at l i f m k h =
    ap (λ (n : ℕ). sets (sets l i (flat f (upto k))) (i + n) (f k)) (sym (flat_length f m k h))
    ∙ sets_append l i (flat f (upto k)) (f k)
    ∙ ap (sets l i) (sym (flat_more f k))

-- records from the front: one more
pub records_more : (l : List ℕ) (f : ℕ → List ℕ) (m k : ℕ) → ((i : ℕ) → length (f i) ≡ m)
    → sets (sets l 0 (flat f (upto k))) (m * k) (f k) ≡ sets l 0 (flat f (upto (k + 1)))
records_more l f m k h =
    let n : m * k ≡ 0 + m * k = omega arith in
    ap (λ (i : ℕ). sets (sets l 0 (flat f (upto k))) i (f k)) n ∙ records_more_at l 0 f m k h

-- single words, one after another from i on: one more
pub words_more : (l : List ℕ) (i : ℕ) (f : ℕ → ℕ) (k : ℕ) → set (sets l i (map f (upto k))) (i + k) (f k) ≡ sets l i (map f (upto (k + 1)))
words_more l i f k =
    ap (λ (n : ℕ). sets (sets l i (map f (upto k))) (i + n) (f k ∷ [])) (sym (length_map_upto f k))
    ∙ sets_append l i (map f (upto k)) (f k ∷ [])
    ∙ ap (sets l i) (sym (map_more f k))

-- stores side by side are a run
pub run4 : (l : List ℕ) (i a b c d : ℕ) → set (set (set (set l i a) (i + 1) b) (i + 2) c) (i + 3) d ≡ sets l i (a ∷ b ∷ c ∷ d ∷ [])
run4 l i a b c d =
    let e1 : i + 1 ≡ suc i = omega arith in
    let e2 : i + 2 ≡ suc (suc i) = omega arith in
    let e3 : i + 3 ≡ suc (suc (suc i)) = omega arith in
    rw (e1, e2, e3)

pub run6 : (l : List ℕ) (i a b c d e f : ℕ) → set (set (set (set (set (set l i a) (i + 1) b) (i + 2) c) (i + 3) d) (i + 4) e) (i + 5) f ≡ sets l i (a ∷ b ∷ c ∷ d ∷ e ∷ f ∷ [])
run6 l i a b c d e f =
    let e4 : i + 4 ≡ suc (suc (suc (suc i))) = omega arith in
    let e5 : i + 5 ≡ suc (suc (suc (suc (suc i)))) = omega arith in
    rw (e4, e5, run4 l i a b c d)
