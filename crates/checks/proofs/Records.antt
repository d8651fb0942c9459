-- A record that is taken out of its table reads as it does there: by itself it is a table of one.
use Rattle.std.proofs.Common.{◌≡◌, ℕ, zero, suc, ◌+◌, ◌-◌, ◌*◌, ◌<◌, ◌≤◌, ◌^◌, Bool, true, false, ◌&&◌, ◌⊎◌, inl, inr, List, [], ◌∷◌, map, take, drop, get_or, refl, sym, ap₂, ◌∙◌, arith}
use Rattle.std.proofs.lemmas.List.{get_or-take, get_or-drop}
use Rattle.definition.specs.Accept.{twins, smaller_than, rule_ok}
use Rattle.definition.specs.Book.{Site, slots, pair_slots, impure_slots}
use Rattle.definition.specs.Lists.{every, from, upto, all}
use Rattle.definition.specs.Tables.{word_at, is_zero, zero_from, site_words, site_word, source_at, site_at, site_tidy, rule_words, rule_word, constraint_start, pair_start, impure_start, constraint_at, pair_at, impure_at, rule_at, rule_tidy}
use Rattle.laws.specs.Answers.{and-false, every_stop}
use Rattle.laws.specs.Tests.{split}
use Rattle.checks.specs.Words.{shape_words, twinless, site_fine, CountsFit, rule_fine}
use Rattle.checks.specs.Marks.{SourcesFit}
use Rattle.checks.proofs.Shape.{shape_count}
use Rattle.checks.proofs.SiteTests.{fine_words}
use Rattle.checks.proofs.RuleTests.{counts_fit}

map_same : {A : Type 0} (f g : ℕ → A) (a n : ℕ) → ((k : ℕ) → k < a + n → f k ≡ g k) → map f (from a n) ≡ map g (from a n)
map_same f g a zero h = refl
map_same f g a (suc n) h = ap₂ (λ x xs. x ∷ xs) (h a (omega arith)) (map_same f g (suc a) n (λ k l. h k (omega arith)))

first_same : (n : ℕ) (f g : ℕ → ℕ) → f 0 ≡ g 0 → get_or (map f (upto n)) 0 0 ≡ get_or (map g (upto n)) 0 0
first_same zero f g e = refl
first_same (suc n) f g e = e

-- the words of record i, where each has n
abbrev pub record_of : ℕ → List ℕ → ℕ → List ℕ
record_of n t i = take n (drop (n * i) t)

module _ (n : ℕ) (t : List ℕ) (i : ℕ) where
  each_same : (k : ℕ) → k < n → word_at (record_of n t i) (n * 0 + k) ≡ word_at t (n * i + k)
  each_same k h = let z : n * 0 + k ≡ k = omega arith in rw z (get_or-take n (drop (n * i) t) k 0 h ∙ get_or-drop (n * i) t k 0)

  -- m words of the record from word o on
  zeros_same : (o m : ℕ) → o + m ≤ n → zero_from (record_of n t i) (n * 0 + o) m ≡ zero_from t (n * i + o) m
  unfolding is_zero
  zeros_same o zero h = refl
  zeros_same o (suc m) h =
      let p : suc (n * 0 + o) ≡ n * 0 + suc o = omega arith in
      let q : suc (n * i + o) ≡ n * i + suc o = omega arith in
      rw (each_same o (omega arith), p, q, zeros_same (suc o) m (omega arith))

-- A RULE
abbrev pub rule_record : List ℕ → ℕ → List ℕ
rule_record u i = record_of (rule_words slots) u i

module _ (u : List ℕ) (i : ℕ) where
  word_same : (k : ℕ) → k < rule_words slots → rule_word slots (rule_record u i) 0 k ≡ rule_word slots u i k
  word_same k h = each_same (rule_words slots) u i k h

  constraint_same : (k : ℕ) → k < slots → constraint_at slots (rule_record u i) 0 k ≡ constraint_at slots u i k
  unfolding constraint_at
  constraint_same k h =
      let at = constraint_start k in
      rw (word_same at (omega arith), word_same (at + 1) (omega arith), word_same (at + 2) (omega arith), word_same (at + 3) (omega arith))

  pair_same : (k : ℕ) → k < slots → pair_at slots (rule_record u i) 0 k ≡ pair_at slots u i k
  unfolding pair_at
  pair_same k h = rw (word_same (pair_start slots k) (omega arith), word_same (pair_start slots k + 1) (omega arith))

  impure_same : (k : ℕ) → k < slots → impure_at slots (rule_record u i) 0 k ≡ impure_at slots u i k
  unfolding impure_at
  impure_same k h = word_same (impure_start slots k) (omega arith)

  -- where its counts fit, it is the same rule
  pub rule_same : CountsFit slots u i → rule_at slots (rule_record u i) 0 ≡ rule_at slots u i
  unfolding rule_at
  rule_same fits =
      let w = rule_record u i in
      let x = fits.constraints in
      let y = fits.pairs in
      let z = fits.impure in
      rw (
        word_same 0 (omega arith),
        word_same 1 (omega arith),
        word_same 2 (omega arith),
        word_same 3 (omega arith),
        word_same 4 (omega arith),
        word_same 5 (omega arith),
        map_same (constraint_at slots w 0) (constraint_at slots u i) 0 (rule_word slots u i 3) (λ k h. constraint_same k (omega arith)),
        map_same (pair_at slots w 0) (pair_at slots u i) 0 (rule_word slots u i 4) (λ k h. pair_same k (omega arith)),
        map_same (impure_at slots w 0) (impure_at slots u i) 0 (rule_word slots u i 5) (λ k h. impure_same k (omega arith)),
      )

  fits_back : CountsFit slots (rule_record u i) 0 → CountsFit slots u i
  fits_back f = record {
    constraints = rw (← word_same 3 (omega arith)) f.constraints;
    pairs = rw (← word_same 4 (omega arith)) f.pairs;
    impure = rw (← word_same 5 (omega arith)) f.impure;
  }

  tidy_same : CountsFit slots u i → rule_tidy slots (rule_record u i) 0 ≡ rule_tidy slots u i
  unfolding rule_tidy
  tidy_same fits =
      let x = fits.constraints in
      let y = fits.pairs in
      let z = fits.impure in
      rw (
        word_same 3 (omega arith),
        word_same 4 (omega arith),
        word_same 5 (omega arith),
        zeros_same (rule_words slots) u i (constraint_start (rule_word slots u i 3)) (4 * (slots - rule_word slots u i 3)) (omega arith),
        zeros_same (rule_words slots) u i (pair_start slots (rule_word slots u i 4)) (2 * (pair_slots - rule_word slots u i 4)) (omega arith),
        zeros_same (rule_words slots) u i (impure_start slots (rule_word slots u i 5)) (impure_slots - rule_word slots u i 5) (omega arith),
      )

  -- where they do not, no rule passes
  pub fine_same : (S : ℕ) → rule_fine slots S (rule_record u i) 0 ≡ rule_fine slots S u i
  unfolding rule_fine
  fine_same S = go (split (rule_ok slots S (rule_at slots w 0))) (split (rule_ok slots S (rule_at slots u i)))
    where
      w : List ℕ
      w = rule_record u i

      go : (rule_ok slots S (rule_at slots w 0) ≡ true) ⊎ (rule_ok slots S (rule_at slots w 0) ≡ false)
          → (rule_ok slots S (rule_at slots u i) ≡ true) ⊎ (rule_ok slots S (rule_at slots u i) ≡ false)
          → rule_tidy slots w 0 && rule_ok slots S (rule_at slots w 0) ≡ rule_tidy slots u i && rule_ok slots S (rule_at slots u i)
      go q (inl p) = let f = counts_fit slots S u i p in rw (tidy_same f, rule_same f)
      go (inl p) (inr q) = let f = fits_back (counts_fit slots S w 0 p) in rw (tidy_same f, rule_same f)
      go (inr p) (inr q) = rw (p, q) (and-false (rule_tidy slots w 0) ∙ sym (and-false (rule_tidy slots u i)))

-- A SITE
abbrev pub site_record : List ℕ → ℕ → List ℕ
site_record t s = record_of site_words t s

module _ (t : List ℕ) (s : ℕ) {w : List ℕ} (e : w ≡ site_record t s) where
  site_word_same : (k : ℕ) → k < site_words → site_word w 0 k ≡ site_word t s k
  site_word_same k h = rw e (each_same site_words t s k h)

  source_same : (k : ℕ) → k < 4 → source_at w 0 k ≡ source_at t s k
  unfolding source_at
  source_same k h = site_word_same (2 + k) (omega arith)

  -- where its count fits, it is the same site
  pub site_same : site_word t s 1 ≤ 4 → site_at w 0 ≡ site_at t s
  unfolding site_at
  site_same few =
      rw (
        site_word_same 0 (omega arith),
        site_word_same 1 (omega arith),
        site_word_same 3 (omega arith),
        site_word_same 4 (omega arith),
        site_word_same 5 (omega arith),
        map_same (source_at w 0) (source_at t s) 0 (site_word t s 1) (λ k h. source_same k (omega arith)),
      )

  pub sources_fit_same : SourcesFit t s s → SourcesFit w 0 s
  sources_fit_same f =
      let few = f.few in
      let count = site_word_same 1 (omega arith) in
      record {
        few = omega arith;
        one = λ k. count ∙ f.one (sym (site_word_same 0 (omega arith)) ∙ k);
        below = λ k h. rw (source_same k (omega arith)) (f.below k (omega arith));
      }

  site_tidy_same : site_word t s 1 ≤ 4 → site_tidy w 0 ≡ site_tidy t s
  unfolding site_tidy
  site_tidy_same few =
      let at = 2 + site_word t s 1 in
      let left = 4 - site_word t s 1 in
      let zeros : zero_from w (site_words * 0 + at) left ≡ zero_from t (site_words * s + at) left = rw e (zeros_same site_words t s at left (omega arith)) in
      rw (site_word_same 0 (omega arith), site_word_same 1 (omega arith), zeros)

  -- a site's twins are told from its first source, however many it counts
  pub twins_same : (x : Site) → twins (site_at w 0) x ≡ twins (site_at t s) x
  unfolding twins site_at
  twins_same x =
      rw (
        site_word_same 0 (omega arith),
        site_word_same 1 (omega arith),
        site_word_same 3 (omega arith),
        site_word_same 4 (omega arith),
        site_word_same 5 (omega arith),
        first_same (site_word t s 1) (source_at w 0) (source_at t s) (source_same 0 (omega arith)),
      )

  -- a site whose count does not fit fails with its record
  pub site_fine_same : site_word t s 5 < 2 ^ 32 → site_fine t w 0 s ≡ site_fine t t s s
  site_fine_same h =
      let last : site_word w 0 5 ≡ site_word t s 5 = site_word_same 5 (omega arith) in
      fine_words t w 0 s (omega arith) ∙ rw words_same (go (split shape)) ∙ sym (fine_words t t s s h)
    where
      shape : Bool
      shape = shape_words (site_word t s 0) (site_word t s 1) (site_word t s 3) (site_word t s 4) (site_word t s 5)

      words_same : shape_words (site_word w 0 0) (site_word w 0 1) (site_word w 0 3) (site_word w 0 4) (site_word w 0 5) ≡ shape
      words_same = rw (
        site_word_same 0 (omega arith),
        site_word_same 1 (omega arith),
        site_word_same 3 (omega arith),
        site_word_same 4 (omega arith),
        site_word_same 5 (omega arith),
      )

      tests : List ℕ → ℕ → List Bool
      tests v i = shape ∷ all (smaller_than s) (map (source_at v i) (upto (site_word v i 1))) ∷ all (twinless t (site_at v i)) (upto s) ∷ site_tidy v i ∷ []

      go : (shape ≡ true) ⊎ (shape ≡ false) → every (tests w 0) ≡ every (tests t s)
      go (inr p) = every_stop (tests w 0) 0 p ∙ sym (every_stop (tests t s) 0 p)
      go (inl p) =
          let few = shape_count (site_word t s 0) (site_word t s 1) (site_word t s 3) (site_word t s 4) (site_word t s 5) p in
          rw (
            site_word_same 1 (omega arith),
            site_same few,
            site_tidy_same few,
            map_same (source_at w 0) (source_at t s) 0 (site_word t s 1) (λ k l. source_same k (omega arith)),
          )
