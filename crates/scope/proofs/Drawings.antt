-- What refusals 3 and 4 leave is a table, and the book that tables are is drawn in them.
use mathlib.Core.Path.{◌≡◌, ap₂}
use mathlib.Core.Bool.{true}
use mathlib.Core.List.{List, []}
use Prim.Native.Nat.{ℕ, ◌*◌, ◌≤◌, ◌<◌}
use lib.ListN.{length}
use borrow.Author.Tests.{eq-eqb, eqb-true}
use Rattle.definition.specs.Accept.{shape_ok, sites_ok, rules_ok}
use Rattle.definition.specs.Book.{Book, Site, most, slots}
use Rattle.definition.specs.Tables.{site_words, site_at, book_of}
use Rattle.laws.specs.Tests.{every_at}
use Rattle.theorems.specs.Refusals.{sites_length}
use Rattle.tables.proofs.Kept.{site_is, shape_passes, sources_below, sited, result_below, impure_below}
use Rattle.scope.specs.declared.Sites.{Sites}
use Rattle.scope.specs.Table.{Table}
use Rattle.scope.specs.Drawn.{Drawn, Usable}

pub book_drawn : (t : Sites) (n R : ℕ) (u : List ℕ) → Drawn t (book_of n t.count R t.words.now u)
book_drawn t n R u = record { size = sites_length n t.count R t.words.now u; at = site_is n t.count R t.words.now u }

-- a book of these sites: what is promised for every book holds of it
abbrev pub sites_only : Sites → Book
sites_only t = book_of slots t.count 0 t.words.now []

pub sites_drawn : (t : Sites) → Drawn t (sites_only t)
sites_drawn t = book_drawn t slots 0 []

-- the site that `Sites::site` hands out
pub site_same : {t u : List ℕ} {s x : ℕ} → (t ≡ u) × (s ≡ x) → site_at t s ≡ site_at u x
site_same e = ap₂ site_at e.0 e.1

one_source : (x : Site) → shape_ok x ≡ true → x.kind ≡ 7 → length x.sources ≡ 1
unfolding shape_ok
one_source x e h = eqb-true (length x.sources) 1 (rw (eq-eqb x.kind 7 h) at (every_at _ 4 e))

pub book_table : (S R : ℕ) (t u : List ℕ) → S ≤ most → site_words * S ≤ length t → sites_ok (book_of slots S R t u) ≡ true
    → Table S t
book_table S R t u few long e = record {
  few = few;
  sited = λ s h. sited S R t u e s h long;
  lower = λ s k h. sources_below S R t u e s h k;
  bound = λ s h. one_source (site_at t s) (shape_passes S R t u e s h);
}

pub rule_usable : (S R : ℕ) (t u : List ℕ) → rules_ok slots (book_of slots S R t u) ≡ true → (i : ℕ) → i < R → Usable S u i
rule_usable S R t u e i h = record {
  impure = record { below = impure_below S R t u e i h };
  result = result_below S R t u e i h;
}
