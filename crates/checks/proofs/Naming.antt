-- The sites that a rule names, as runs of words of the rule table.
use Prim.Native.Nat.{ℕ, ◌+◌, ◌*◌, ◌<◌}
use mathlib.Core.Path.{◌≡◌, refl, sym, ap, ap₂, ◌∙◌}
use mathlib.Core.Bool.{Bool, true, false, ◌&&◌, not}
use mathlib.Core.List.{List, [], ◌∷◌, ◌++◌, map}
use native.Mathlib.Omega.{arith}
use borrow.Author.Tests.{ltb-true}
use Rattle.definition.specs.Lists.{◌is◌, ◌below◌, all, flat, upto}
use Rattle.definition.specs.Book.{slots}
use Rattle.definition.specs.Tables.{word_at, rule_words, rule_word, constraint_start, pair_start, impure_start, constraint_at, pair_at, impure_at, rule_at}
use Rattle.definition.specs.Accept.{smaller_than, constraint_ok, pair_ok, rule_ok, site_of, ends, named}
use Rattle.laws.specs.Tests.{both, every_at}
use Rattle.laws.specs.Answers.{and-true, and_assoc}
use Rattle.laws.specs.Members.{all_same}
use Rattle.laws.specs.Turns.{all_append, all_and, all_map, all_flat, mapped_at}
use Rattle.checks.specs.Marks.{stepped}
use Rattle.checks.proofs.RuleTests.{rule_is}

regroup : (a b c d : Bool) → ((a && b) && c) && d ≡ a && (b && (c && d))
regroup true true c d = refl
regroup true false c d = refl
regroup false b c d = refl

five_runs : (good : ℕ → Bool) (a b c d e : List ℕ) → all good ((((a ++ b) ++ c) ++ d) ++ e) ≡ all good a && ((all good b && all good c) && (all good d && all good e))
five_runs good a b c d e = simp all_append (regroup (all good a && all good b) (all good c) (all good d) (all good e) ∙ sym (and_assoc (all good a) (all good b) (all good c && (all good d && all good e))) ∙ ap (λ (x : Bool). all good a && x) (and_assoc (all good b) (all good c) (all good d && all good e)))

four_lists : (good : ℕ → Bool) (a b c d : List ℕ) → all good (a ++ b ++ c ++ d) ≡ all good a && (all good b && (all good c && all good d))
four_lists good a b c d = simp all_append (regroup (all good a) (all good b) (all good c) (all good d))

module _ (u : List ℕ) (i : ℕ) where
  -- the five runs: constraints, the first and the second ids of pairs, impure sites, the result
  abbrev pub constraint_run : ℕ → ℕ
  constraint_run = stepped u (rule_words slots * i + 6) 4

  abbrev pub first_run : ℕ → ℕ
  first_run = stepped u (rule_words slots * i + 22) 2

  abbrev pub second_run : ℕ → ℕ
  second_run = stepped u (rule_words slots * i + 23) 2

  abbrev pub impure_run : ℕ → ℕ
  impure_run = stepped u (rule_words slots * i + 30) 1

  abbrev pub result_run : ℕ → ℕ
  result_run = stepped u (rule_words slots * i + 2) 1

  constraint_word : (k : ℕ) → constraint_run k ≡ rule_word slots u i (constraint_start k)
  unfolding stepped
  constraint_word k = ap (word_at u) (omega arith)

  first_word : (k : ℕ) → first_run k ≡ rule_word slots u i (pair_start slots k)
  unfolding stepped
  first_word k = ap (word_at u) (omega arith)

  second_word : (k : ℕ) → second_run k ≡ rule_word slots u i (pair_start slots k + 1)
  unfolding stepped
  second_word k = ap (word_at u) (omega arith)

  impure_word : (k : ℕ) → impure_run k ≡ rule_word slots u i (impure_start slots k)
  unfolding stepped
  impure_word k = ap (word_at u) (omega arith)

  result_word : result_run 0 ≡ rule_word slots u i 2
  unfolding stepped
  result_word = ap (word_at u) (omega arith)

  -- what refusal 5 says of them
  module _ (S : ℕ) (e : rule_ok slots S (rule_at slots u i) ≡ true) where
    pub constraint_below : (k : ℕ) → k < rule_word slots u i 3 → constraint_run k < S
    unfolding constraint_ok constraint_at
    constraint_below k h =
        rw (constraint_word k)
        (ltb-true _ S (both (rule_word slots u i (constraint_start k) below S) _ (mapped_at (constraint_ok S) (constraint_at slots u i) (rule_word slots u i 3) k (every_at _ 4 (sym (rule_is slots S u i) ∙ e)) h)).0)

    pair_below : (k : ℕ) → k < rule_word slots u i 4 → (rule_word slots u i (pair_start slots k) < S) × (rule_word slots u i (pair_start slots k + 1) < S)
    unfolding pair_ok pair_at
    pair_below k h =
        let a = rule_word slots u i (pair_start slots k) in
        let b = rule_word slots u i (pair_start slots k + 1) in
        let f = both ((a below S) && (b below S)) (not (a is b)) (mapped_at (pair_ok S) (pair_at slots u i) (rule_word slots u i 4) k (every_at _ 6 (sym (rule_is slots S u i) ∙ e)) h) in
        let g = both (a below S) (b below S) f.0 in
        (ltb-true a S g.0, ltb-true b S g.1)

    pub first_below : (k : ℕ) → k < rule_word slots u i 4 → first_run k < S
    first_below k h = rw (first_word k) (pair_below k h).0

    pub second_below : (k : ℕ) → k < rule_word slots u i 4 → second_run k < S
    second_below k h = rw (second_word k) (pair_below k h).1

    pub impure_below : (k : ℕ) → k < rule_word slots u i 5 → impure_run k < S
    unfolding smaller_than impure_at
    impure_below k h = rw (impure_word k) (ltb-true _ S (mapped_at (smaller_than S) (impure_at slots u i) (rule_word slots u i 5) k (every_at _ 7 (sym (rule_is slots S u i) ∙ e)) h))

    pub result_below : result_run 0 < S
    result_below = rw result_word (ltb-true _ S (every_at _ 3 (sym (rule_is slots S u i) ∙ e)))

  -- judged together they are what the rule names
  constraints_judged : (good : ℕ → Bool) (n : ℕ) → all good (map constraint_run (upto n)) ≡ all good (map site_of (map (constraint_at slots u i) (upto n)))
  unfolding site_of constraint_at
  constraints_judged good n =
      all_map good constraint_run (upto n)
      ∙ all_same _ _ (upto n) (λ k _. ap good (constraint_word k))
      ∙ sym (all_map good site_of (map (constraint_at slots u i) (upto n)) ∙ all_map (λ c. good (site_of c)) (constraint_at slots u i) (upto n))

  pairs_judged : (good : ℕ → Bool) (n : ℕ) → all good (map first_run (upto n)) && all good (map second_run (upto n)) ≡ all good (flat ends (map (pair_at slots u i) (upto n)))
  unfolding ends pair_at
  pairs_judged good n =
      ap₂ (λ x y. x && y) (all_map good first_run (upto n)) (all_map good second_run (upto n))
      ∙ sym (all_and (λ k. good (first_run k)) (λ k. good (second_run k)) (upto n))
      ∙ all_same _ _ (upto n) (λ k _. ap₂ (λ a b. good a && b) (first_word k) (ap good (second_word k) ∙ sym (and-true (good (rule_word slots u i (pair_start slots k + 1))))))
      ∙ sym (all_flat good ends (map (pair_at slots u i) (upto n)) ∙ all_map (λ p. all good (ends p)) (pair_at slots u i) (upto n))

  impure_judged : (good : ℕ → Bool) (n : ℕ) → all good (map impure_run (upto n)) ≡ all good (map (impure_at slots u i) (upto n))
  unfolding impure_at
  impure_judged good n =
      all_map good impure_run (upto n) ∙ all_same _ _ (upto n) (λ k _. ap good (impure_word k)) ∙ sym (all_map good (impure_at slots u i) (upto n))

  pub named_judged : (good : ℕ → Bool) → all good ((((map constraint_run (upto (rule_word slots u i 3)) ++ map first_run (upto (rule_word slots u i 4))) ++ map second_run (upto (rule_word slots u i 4))) ++ map impure_run (upto (rule_word slots u i 5))) ++ map result_run (upto 1)) ≡ all good (named (rule_at slots u i))
  unfolding named rule_at
  named_judged good =
      five_runs good (map constraint_run (upto (rule_word slots u i 3))) (map first_run (upto (rule_word slots u i 4))) (map second_run (upto (rule_word slots u i 4))) (map impure_run (upto (rule_word slots u i 5))) (map result_run (upto 1))
      ∙ ap₂ (λ x y. x && y) (constraints_judged good (rule_word slots u i 3)) (ap₂ (λ x y. x && y) (pairs_judged good (rule_word slots u i 4)) (ap₂ (λ x y. x && y) (impure_judged good (rule_word slots u i 5)) (ap (λ (s : ℕ). good s && true) result_word)))
      ∙ sym (four_lists good (map site_of (map (constraint_at slots u i) (upto (rule_word slots u i 3)))) (flat ends (map (pair_at slots u i) (upto (rule_word slots u i 4)))) (map (impure_at slots u i) (upto (rule_word slots u i 5))) (rule_word slots u i 2 ∷ []))
