-- A tree's words read back to the tree.
use Rattle.std.specs.Prelude.{◌≡◌, Bool, true, false, ◌&&◌, ℤ, pos, negsuc, ltb, length, ◌⊎◌}
use Rattle.std.proofs.Math.Path.{refl, subst}
use Rattle.std.proofs.Common.{sym, ◌∙◌, ap, ap₂, arith, length-append, eqb-true, ltb-true, ltb-false, lt-ltb, le-ltb, le-leb, ne_eqb, inl, inr}
use Rattle.std.proofs.lemmas.Bool.{false≢true}
use mathlib.Core.List.{List, [], ◌∷◌, ◌++◌, map, append_assoc, append-nil}
use Rattle.std.proofs.Math.Option.{Option, none, some}
use Prim.Native.Nat.{ℕ, zero, suc, ◌-◌}
use Rattle.std.proofs.Math.Dec.{eqb}
use Rattle.std.specs.Int.Signed.{mag}
use Rattle.std.proofs.Math.Seq.{take-append_seam, drop-append_seam}
use Rattle.definition.specs.Lists.{all}
use Rattle.laws.specs.Tests.{split, both}
use Rattle.definition.specs.Book.{Pattern}
use Rattle.definition.specs.Accept.{pattern_ok}
use Rattle.definition.specs.Tree.{Block, Flow, Arms, end, step, match, equal, return, no_arms, arm, word, place_word, step_count, arm_count, step_words, flow_words, arm_words, words, let_words, pattern_words, block_words}
use Rattle.definition.specs.Read.{Reader, numbers, id_ok, place_of, place_ok, read_lets, read_places, read_pattern, read_arm, read_arms, read_flow, read_tagged, read_step, read_steps, read_counted, read_framed, read_block}
use Rattle.definition.specs.Tables.{signed}

-- TREES THAT ARE READ BACK: the reader's tests, on a tree. A number fits 32 bits
abbrev pub number_ok : ℤ → Bool
number_ok z = ltb (mag z) 0x8000_0000

pub signed_ok : (w : ℕ) → number_ok (signed w) ≡ true
signed_ok w = go (split (ltb w 0x8000_0000))
  where
    go : (ltb w 0x8000_0000 ≡ true) ⊎ (ltb w 0x8000_0000 ≡ false) → number_ok (signed w) ≡ true
    go (inl e) = rw e e
    go (inr e) = rw e (lt-ltb (0xFFFF_FFFF - w) 0x8000_0000 (omega (arith, ltb-false w 0x8000_0000 e)))

abbrev pub under : (ℕ → Bool) → ℕ → Bool
under f zero = false
under f (suc n) = f n

unfoldable mutual
  pub well_formed : Block → ℕ → Bool
  well_formed end n = true
  well_formed (step l f k) n = all id_ok l && (flow_well_formed f n && well_formed k n)

  pub flow_well_formed : Flow → ℕ → Bool
  flow_well_formed (match s as') n = id_ok s && arms_well_formed as' n
  flow_well_formed (equal x y k) n = (ltb x y && id_ok y) && under (λ m. well_formed k m) n
  flow_well_formed (return i p r) n = id_ok i && id_ok r

  pub arms_well_formed : Arms → ℕ → Bool
  arms_well_formed no_arms n = true
  arms_well_formed (arm p ps k as') n =
      (pattern_ok p && (all place_ok ps)) && ((number_ok p.number && eqb (length ps) p.fields) && (under (λ m. well_formed k m) n && arms_well_formed as' n))

-- ROUND TRIP
numbers_read : (l r : List ℕ) → numbers (length l) (l ++ r) ≡ some (l, r)
numbers_read [] r = refl
numbers_read (x ∷ l) r = rw (numbers_read l r)

places_length : (ps : List (Option ℕ)) → length (map place_word ps) ≡ length ps
places_length [] = refl
places_length (p ∷ ps) = ap suc (places_length ps)

site_back : (p : Option ℕ) → place_ok p ≡ true → place_of (place_word p) ≡ p
site_back none e = refl
site_back (some s) e = rw (ne_eqb s 65535 (λ q. let z = ltb-true s 252 (unfold id_ok in e) in omega arith))

places_back : (ps : List (Option ℕ)) → all place_ok ps ≡ true → map place_of (map place_word ps) ≡ ps
places_back [] e = refl
places_back (p ∷ ps) e = let q = both (place_ok p) _ e in ap₂ (λ x xs. x ∷ xs) (site_back p q.0) (places_back ps q.1)

signed_back : (z : ℤ) → number_ok z ≡ true → signed (word z) ≡ z
signed_back (pos n) e = rw e
signed_back (negsuc n) e =
    let h = ltb-true n 2147483648 e in
    rw (le-ltb (4294967295 - n) 2147483648 (omega arith)) (ap negsuc (let q : 4294967295 - (4294967295 - n) ≡ n = omega arith in q))

-- the reader of nested blocks reads back every block that is well_formed with one nesting less
abbrev Reads : Reader Block → ℕ → Type 0
Reads sub n = (m : ℕ) → n ≡ suc m → (k : Block) → well_formed k m ≡ true → (r : List ℕ) → sub (words k ++ r) ≡ some (k, r)

pub under_parts : (f : ℕ → Bool) (n : ℕ) → under f n ≡ true → (m : ℕ) × (n ≡ suc m) × (f m ≡ true)
under_parts f zero e = absurd (false≢true e)
under_parts f (suc n) e = (n, refl, e)

lets_read : (l r : List ℕ) → all id_ok l ≡ true → read_lets ((length l ∷ l) ++ r) ≡ some (l, r)
unfolding read_lets
lets_read l r e = rw (numbers_read l r, e)

pattern_read : (p : Pattern) (ps : List (Option ℕ)) (r : List ℕ) → pattern_ok p ≡ true → all place_ok ps ≡ true → number_ok p.number ≡ true → eqb (length ps) p.fields ≡ true
    → read_pattern (p.kind ∷ p.fields ∷ word p.number ∷ (map place_word ps ++ r)) ≡ some ((p, ps), r)
unfolding read_pattern read_places
pattern_read p ps r e₁ e₂ e₃ e₄ =
    let f : p.fields ≡ length (map place_word ps) = sym (eqb-true (length ps) p.fields e₄) ∙ sym (places_length ps) in
    let s : numbers p.fields (map place_word ps ++ r) ≡ some (map place_word ps, r) = subst (λ m. numbers m (map place_word ps ++ r) ≡ some (map place_word ps, r)) (sym f) (numbers_read (map place_word ps) r) in
    rw (signed_back p.number e₃, e₁, s, places_back ps e₂, e₂)

module _ (sub : Reader Block) (n : ℕ) (h : Reads sub n) where
  arms_read : (as' : Arms) → arms_well_formed as' n ≡ true → (r : List ℕ) → read_arms sub (arm_count as') (arm_words as' ++ r) ≡ some (as', r)
  unfolding step_words well_formed words read_arm pattern_words
  arms_read no_arms e r = refl
  arms_read (arm p ps k as') e r =
      let q₁ = both (pattern_ok p && all place_ok ps) _ e in
      let q₀ = both (pattern_ok p) _ q₁.0 in
      let q₂ = both (number_ok p.number && eqb (length ps) p.fields) _ q₁.1 in
      let q₃ = both (number_ok p.number) _ q₂.0 in
      let q₄ = both (under (λ m. well_formed k m) n) _ q₂.1 in
      let u = under_parts (λ m. well_formed k m) n q₄.0 in
      let x : List ℕ = block_words (step_count k) (step_words k) ++ (arm_words as' ++ r) in
      let s₂ : sub (block_words (step_count k) (step_words k) ++ (arm_words as' ++ r)) ≡ some (k, arm_words as' ++ r) = h u.0 u.1 k u.2 (arm_words as' ++ r) in
      let a : (map place_word ps ++ block_words (step_count k) (step_words k) ++ arm_words as') ++ r ≡ map place_word ps ++ x = simp append_assoc in
      subst (λ ws. read_arms sub (suc (arm_count as')) (p.kind ∷ p.fields ∷ word p.number ∷ ws) ≡ some (arm p ps k as', r)) (sym a)
      (rw (pattern_read p ps x q₀.0 q₀.1 q₃.0 q₃.1, s₂, arms_read as' q₄.1 r))

  flow_read : (f : Flow) → flow_well_formed f n ≡ true → (r : List ℕ) → read_tagged sub (flow_words f ++ r) ≡ some (f, r)
  unfolding step_words well_formed read_flow read_tagged words
  flow_read (match s as') e r = let q = both (id_ok s) _ e in rw (q.0, arms_read as' q.1 r)
  flow_read (equal x y k) e r =
      let q = both (ltb x y && id_ok y) _ e in
      let u = under_parts (λ m. well_formed k m) n q.1 in
      rw (q.0, h u.0 u.1 k u.2 r)
  flow_read (return i p res) e r = rw e

  steps_read : (k : Block) → well_formed k n ≡ true → (r : List ℕ) → read_steps sub (step_count k) (step_words k ++ r) ≡ some (k, r)
  unfolding step_words well_formed read_step let_words
  steps_read end e r = refl
  steps_read (step l f k) e r =
      let q₁ = both (all id_ok l) _ e in
      let q₂ = both (flow_well_formed f n) _ q₁.1 in
      let a : (l ++ flow_words f ++ step_words k) ++ r ≡ l ++ (flow_words f ++ (step_words k ++ r)) = simp append_assoc in
      subst (λ ws. read_steps sub (suc (step_count k)) (length l ∷ ws) ≡ some (step l f k, r)) (sym a)
      (rw (lets_read l (flow_words f ++ (step_words k ++ r)) q₁.0, flow_read f q₂.0 (step_words k ++ r), steps_read k q₂.1 r))

framed_read : (sub : Reader Block) (n : ℕ) → Reads sub n → (k : Block) → well_formed k n ≡ true → (r : List ℕ) → read_framed sub (words k ++ r) ≡ some (k, r)
unfolding read_framed read_counted words block_words
framed_read sub n h k e r =
    let s = step_words k in
    let d : read_steps sub (step_count k) (step_words k) ≡ some (k, []) = subst (λ l. read_steps sub (step_count k) l ≡ some (k, [])) (append-nil s) (steps_read sub n h k e []) in
    rw (le-leb (suc (length s)) (suc (length (s ++ r))) (omega (arith, length-append s r)), take-append_seam s r, d, drop-append_seam s r)

pub block_read : (n : ℕ) (k : Block) → well_formed k n ≡ true → (r : List ℕ) → read_block (suc n) (words k ++ r) ≡ some (k, r)
unfolding read_block
block_read zero k e r = framed_read (read_block 0) zero (λ m q. absurd (omega arith)) k e r
block_read (suc n) k e r = framed_read (read_block (suc n)) (suc n) (λ m q k' f s. let z : n ≡ m = omega arith in block_read n k' (rw z f) s) k e r
