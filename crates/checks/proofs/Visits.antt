-- A visit to a site: it is not marked, or is marked and refused, or is marked and hands on to its sources.
use Prim.Native.Nat.{ℕ, ◌+◌, ◌*◌, ◌<◌}
use mathlib.Core.Path.{◌≡◌, refl, sym, ap, ◌∙◌}
use mathlib.Core.Bool.{Bool, true, false, ◌&&◌}
use mathlib.Core.List.{List, map}
use native.Mathlib.Omega.{arith}
use lib.ListN.{get_or}
use Rattle.definition.specs.Lists.{◌is◌, ◌implies◌, all, upto}
use Rattle.definition.specs.Tables.{word_at, site_words, site_word, source_at, site_at, book_of}
use Rattle.definition.specs.Book.{Site, Rule}
use Rattle.definition.specs.Accept.{granted, sound_from}
use Rattle.laws.specs.Answers.{and-true, and_first, and_second, and_rest}
use Rattle.laws.specs.Members.{all_same}
use Rattle.laws.specs.Turns.{all_map}
use Rattle.checks.specs.Marks.{good_if_marked, pending, stepped, Marked, Sourced, Visited}
use Rattle.checks.proofs.Marking.{pending_down}
use Rattle.checks.proofs.Soundness.{sound_at}

unmarked_down : (good : ℕ → Bool) (m : List Bool) (s : ℕ) → get_or m s false ≡ false → pending good m (s + 1) ≡ pending good m s
unfolding good_if_marked
unmarked_down good m s h = pending_down good m s ∙ rw h (and-true (pending good m s))

marked_down : (good : ℕ → Bool) (m : List Bool) (s : ℕ) → get_or m s false ≡ true → pending good m (s + 1) ≡ pending good m s && good s
unfolding good_if_marked
marked_down good m s h = pending_down good m s ∙ rw h

visited_site : (n S R : ℕ) (t u : List ℕ) (x : Site) (r : Rule) (s : ℕ) → s < S → Sourced S t → site_at t s ≡ x
    → sound_from (book_of n S R t u) r s ≡ (x.kind is 7 implies granted r x) && all (sound_from (book_of n S R t u) r) x.sources
visited_site n S R t u x r s l f e =
    sound_at n S R t u r f s l ∙ ap (λ (y : Site). (y.kind is 7 implies granted r y) && all (sound_from (book_of n S R t u) r) y.sources) e

module _ (n : ℕ) (x : Site) (r : Rule) (s : ℕ) (m : List Bool) where
  pub visit_unmarked : get_or m s false ≡ false → Visited n x r s true m m
  visit_unmarked h = record { size = refl; judged = λ S R t u l f d. sym (unmarked_down (sound_from (book_of n S R t u) r) m s h) }

  pub visit_refused : get_or m s false ≡ true → (x.kind is 7 implies granted r x) ≡ false → Visited n x r s false m m
  visit_refused h e = record {
    size = refl;
    judged = λ S R t u l f d.
        let judge = sound_from (book_of n S R t u) r in
        sym (marked_down judge m s h ∙ and_second (pending judge m s) (visited_site n S R t u x r s l f d ∙ and_first _ e));
  }

  pub visit_marked : (m' : List Bool) → get_or m s false ≡ true → (x.kind is 7 implies granted r x) ≡ true → Marked s x.sources m m' → Visited n x r s true m m'
  visit_marked m' h e g = record {
    size = g.size;
    judged = λ S R t u l f d.
        let judge = sound_from (book_of n S R t u) r in
        g.judged judge
        ∙ ap (λ (b : Bool). pending judge m s && b) (sym (visited_site n S R t u x r s l f d ∙ and_rest e refl))
        ∙ sym (marked_down judge m s h);
  }

-- what a visit's answer says of the marks before it, wherever the walk down stands
module _ (n S R : ℕ) (t u : List ℕ) (x : Site) (r : Rule) (s q : ℕ) (m m' : List Bool) (v : Bool) (g : Visited n x r s v m m') where
  module _ (l : s < S) (f : Sourced S t) (d : site_at t s ≡ x) (e : q ≡ s + 1) where
    pub visit_fails : v ≡ false → pending (sound_from (book_of n S R t u) r) m q ≡ false
    visit_fails h = ap (pending (sound_from (book_of n S R t u) r) m) e ∙ sym (g.judged S R t u l f d) ∙ rw h

    pub visit_passes : v ≡ true → pending (sound_from (book_of n S R t u) r) m q ≡ pending (sound_from (book_of n S R t u) r) m' s
    visit_passes h = ap (pending (sound_from (book_of n S R t u) r) m) e ∙ sym (g.judged S R t u l f d) ∙ rw h

-- the sources as a run of words
pub source_word : (t : List ℕ) (s k : ℕ) → stepped t (site_words * s + 2) 1 k ≡ source_at t s k
unfolding stepped source_at
source_word t s k = ap (word_at t) (omega arith)

pub sources_judged : (t : List ℕ) (s : ℕ) (good : ℕ → Bool) → all good (map (stepped t (site_words * s + 2) 1) (upto (site_word t s 1))) ≡ all good (site_at t s).sources
unfolding site_at
sources_judged t s good =
    all_map good (stepped t (site_words * s + 2) 1) (upto (site_word t s 1))
    ∙ all_same _ _ (upto (site_word t s 1)) (λ k _. ap good (source_word t s k))
    ∙ sym (all_map good (source_at t s) (upto (site_word t s 1)))
