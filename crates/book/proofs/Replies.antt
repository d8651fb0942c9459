-- The refusal of a book from its early tests and its late ones, and what is then read of it.
use Prim.Native.Nat.{ℕ}
use mathlib.Core.Path.{◌≡◌, refl, sym, ap, ◌∙◌}
use mathlib.Core.Bool.{Bool, true, false}
use mathlib.Core.List.{List, [], ◌∷◌}
use native.Mathlib.Omega.{arith}
use Rattle.std.specs.Prelude.{Result, Ok, Err}
use Rattle.definition.specs.Book.{slots}
use Rattle.definition.specs.Accept.{lowest, book_tests}
use Rattle.definition.specs.Bytes.{sites_named, rules_named, length_ok, sums_ok, frames_ok, site_records_ok, rule_records_ok, book_in, refusal_of, book_refusal}
use Rattle.laws.specs.Tests.{clash}
use Rattle.refusal.specs.declared.Refusal.{Refusal}
use Rattle.refusal.specs.Numbers.{number}
use Rattle.book.specs.declared.Size.{Size}
use Rattle.book.specs.Reply.{Judged, Decoded}

-- three tests of which one fails decide; else all hold
one_fails : (a b c : Bool) (ts : List Bool) → (lowest 1 (a ∷ b ∷ c ∷ []) ≡ 0 → ⊥) → lowest 1 (a ∷ b ∷ c ∷ ts) ≡ lowest 1 (a ∷ b ∷ c ∷ [])
one_fails true true true ts h = absurd (h refl)
one_fails true true false ts h = refl
one_fails true false c ts h = refl
one_fails false b c ts h = refl

none_fails : (a b c : Bool) → lowest 1 (a ∷ b ∷ c ∷ []) ≡ 0 → (a ≡ true) × (b ≡ true) × (c ≡ true)
none_fails true true true h = (refl, refl, refl)
none_fails true true false h = absurd (omega arith)
none_fails true false c h = absurd (omega arith)
none_fails false b c h = absurd (omega arith)

-- no refusal has the number 0
numbered : (e : Refusal) → number e ≡ 0 → ⊥
numbered Refusal.Length h = absurd (omega arith)
numbered Refusal.Sums h = absurd (omega arith)
numbered Refusal.Frames h = absurd (omega arith)
numbered Refusal.SiteRecord h = absurd (omega arith)
numbered Refusal.RuleRecord h = absurd (omega arith)
numbered Refusal.FieldCounts h = absurd (omega arith)
numbered Refusal.Apart h = absurd (omega arith)
numbered Refusal.Ungranted h = absurd (omega arith)
numbered Refusal.Room h = absurd (omega arith)
numbered Refusal.Lists h = absurd (omega arith)
numbered Refusal.Tree h = absurd (omega arith)
numbered Refusal.Unread h = absurd (omega arith)
numbered Refusal.Id h = absurd (omega arith)

-- an answer is a size or a refusal, and one only
refused : Result Size Refusal → Bool
refused (Ok s) = false
refused (Err e) = true

size_in : Size → Result Size Refusal → Size
size_in d (Ok s) = s
size_in d (Err e) = d

same_size : (r : Result Size Refusal) (d s : Size) → r ≡ Ok d → r ≡ Ok s → d ≡ s
unfolding size_in
same_size r d s e q = ap (size_in d) (sym e ∙ q)

module _ (b : List ℕ) where
  pub passed_early : ◌≡◌ {A = ℕ} 0 (lowest 1 (length_ok b ∷ sums_ok b ∷ frames_ok slots b ∷ [])) → (length_ok b ≡ true) × (sums_ok b ≡ true) × (frames_ok slots b ≡ true)
  passed_early e = none_fails (length_ok b) (sums_ok b) (frames_ok slots b) (sym e)

  early_refusal : (k : ℕ) → k ≡ lowest 1 (length_ok b ∷ sums_ok b ∷ frames_ok slots b ∷ []) → (k ≡ 0 → ⊥) → book_refusal b ≡ k
  unfolding book_refusal refusal_of
  early_refusal k e h = one_fails (length_ok b) (sums_ok b) (frames_ok slots b) (site_records_ok slots b ∷ rule_records_ok slots b ∷ book_tests (book_in slots b)) (λ q. h (e ∙ q)) ∙ sym e

  decoded_refused : (e : Refusal) → book_refusal b ≡ number e → {t u : List ℕ} → Decoded b (Err e) t u
  unfolding refused
  decoded_refused e h = record {
    refusal = sym h;
    size = λ s q. clash (ap refused (sym q)) refl;
    roomy = λ z. absurd (numbered e (sym h ∙ z));
    sites = λ z. absurd (numbered e (sym h ∙ z));
    rules = λ z. absurd (numbered e (sym h ∙ z));
  }

  pub early_refused : (e : Refusal) → number e ≡ lowest 1 (length_ok b ∷ sums_ok b ∷ frames_ok slots b ∷ []) → {t u : List ℕ} → Decoded b (Err e) t u
  early_refused e h = decoded_refused e (early_refusal (number e) h (numbered e))

  -- after the early tests, the tables decide
  module _ {S R k : ℕ} {t u : List ℕ} (es : S ≡ sites_named b) (er : R ≡ rules_named b) (h : (length_ok b ≡ true) × (sums_ok b ≡ true) × (frames_ok slots b ≡ true)) (j : Judged b S R k t u) where
    late_refusal : book_refusal b ≡ k
    unfolding book_refusal refusal_of site_records_ok rule_records_ok book_in
    late_refusal = rw (h.0, h.1, h.2) (sym (j.answer ∙ rw (es, er)))

    pub late_refused : (e : Refusal) → k ≡ number e → Decoded b (Err e) t u
    late_refused e q = decoded_refused e (late_refusal ∙ q)

    pub late_tables : ◌≡◌ {A = ℕ} k 0 → (d : Size) → d.sites ≡ S → d.rules ≡ R → Decoded b (Ok d) t u
    late_tables z d p q = record {
      refusal = sym (late_refusal ∙ z);
      size = λ s e. (ap (λ (x : Size). x.sites) (sym (same_size _ d s refl e)) ∙ p ∙ es, ap (λ (x : Size). x.rules) (sym (same_size _ d s refl e)) ∙ q ∙ er);
      roomy = λ _. j.roomy;
      sites = λ _. rw (← es) j.sites;
      rules = λ _. rw (← es, ← er) j.rules;
    }
