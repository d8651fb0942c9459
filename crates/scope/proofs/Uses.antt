-- Uses of sites, one after another: what holds between two of them, and the laws that put them together.
use mathlib.Core.Path.{◌≡◌, refl, sym, ◌∙◌, ap}
use mathlib.Core.Bool.{true, false}
use mathlib.Core.List.{List, [], ◌∷◌, ◌++◌, append_assoc, append-nil}
use Prim.Native.Nat.{ℕ, zero, suc, ◌+◌, ◌-◌, ◌≤◌, ◌<◌}
use native.Mathlib.Omega.{arith}
use lib.ListN.{length, get_or, set, drop, length-append, length-set}
use borrow.Author.Tests.{lt-ltb, le-ltb}
use Rattle.definition.specs.Lists.{each}
use Rattle.definition.specs.Book.{Rule, Book, most}
use Rattle.definition.specs.Plan.{uses_of}
use Rattle.definition.specs.Scope.{state, emitted, Use, never_listed, mark, add_let, use_below, use_site, use_all}
use Rattle.definition.specs.Tables.{site_at}
use Rattle.definition.specs.Tree.{let_words}
use Rattle.laws.specs.Runs.{in_slice, each_more, each_end}
use Rattle.theorems.specs.LetLists.{low, low_length, low_set}
use Rattle.room.specs.Wrote.{Puts, Patches}
use Rattle.room.specs.declared.Writer.{Writer}
use Rattle.room.proofs.Written.{writes_none, writes_one, writes_then, writes_put, writes_patch}
use Rattle.scope.specs.declared.Scope.{Scope}
use Rattle.scope.specs.declared.Sites.{Sites}
use Rattle.scope.specs.Drawn.{Drawn}
use Rattle.scope.specs.Uses.{Placed, Listed}
use Rattle.scope.proofs.Drawings.{sites_only, sites_drawn}

-- NONE, ONE AFTER ANOTHER
pub placed_none : (s : Scope) (o : Writer ℕ) → Placed (λ u. u) s o 0 s o
placed_none s o = record {
  added = [];
  uses = λ before. ap (λ (x : List ℕ). record { states = s.states; lets = x }) (sym (append-nil before));
  lets = refl;
  wrote = writes_none o;
  root = refl;
  rank = refl;
  spent = omega arith;
}

pub placed_then : {g h : Use → Use} {s : Scope} {o : Writer ℕ} {n k : ℕ} {u v : Scope} {p q : Writer ℕ}
    → Placed g s o n u p → Placed h u p k v q → Placed (λ x. h (g x)) s o (n + k) v q
placed_then {h = h} {v = v} a b = record {
  added = a.added ++ b.added;
  uses = λ before.
      ap h (a.uses before)
      ∙ b.uses (before ++ a.added)
      ∙ ap (λ (x : List ℕ). record { states = v.states; lets = x }) (append_assoc before a.added b.added);
  lets = simp length-append (omega (arith, a.lets, b.lets));
  wrote = writes_then a.wrote b.wrote;
  root = b.root ∙ a.root;
  rank = b.rank ∙ a.rank;
  spent = simp length-append (omega (arith, a.spent, b.spent));
}

module _ {g : Use → Use} {s : Scope} {o : Writer ℕ} {n : ℕ} {r : Scope} {p : Writer ℕ} (w : Placed g s o n r p) where
  -- the same use by another name
  pub placed_as : {h : Use → Use} → ((u : Use) → h u ≡ g u) → Placed h s o n r p
  placed_as e = record {
    added = w.added;
    uses = λ before. e _ ∙ w.uses before;
    lets = w.lets;
    wrote = w.wrote;
    root = w.root;
    rank = w.rank;
    spent = w.spent;
  }

  placed_few : n + low r.states ≤ low s.states
  placed_few = omega (arith, w.lets, w.spent)

-- A LOOP over the sites ss: those before k are used
pub record Turning (f : ℕ → Use → Use) (ss : List ℕ) (k : ℕ) (s : Scope) (o : Writer ℕ) (n : ℕ) (r : Scope) (p : Writer ℕ)
    : Type 0 where
  pub done : Use → Use
  pub rest : (x : Use) → each f ss x ≡ each f (drop k ss) (done x)
  pub placed : Placed done s o n r p

pub turning_starts : (f : ℕ → Use → Use) (ss : List ℕ) (s : Scope) (o : Writer ℕ) → Turning f ss 0 s o 0 s o
turning_starts f ss s o = record { done = λ u. u; rest = λ x. refl; placed = placed_none s o }

module _ {f : ℕ → Use → Use} {ss : List ℕ} {k : ℕ} {s : Scope} {o : Writer ℕ} {n : ℕ} {r : Scope} {p : Writer ℕ}
    (i : Turning f ss k s o n r p) where
  pub turning_turn : k < length ss → {x : ℕ} → x ≡ get_or ss k 0 → {m : ℕ} {v : Scope} {q : Writer ℕ} → Placed (f x) r p m v q
      → Turning f ss (k + 1) s o (n + m) v q
  turning_turn h {x} e w = record {
    done = λ v. f x (i.done v);
    rest = λ v. i.rest v ∙ each_more (in_slice ss) f k h (i.done v) ∙ ap (λ y. each f (drop (k + 1) ss) (f y (i.done v))) (sym e);
    placed = placed_then i.placed w;
  }

  pub turning_ends : length ss ≤ k → Placed (each f ss) s o n r p
  turning_ends h = placed_as i.placed (λ v. i.rest v ∙ each_end (in_slice ss) f k h (i.done v))

-- ONE SITE
-- the scope with the site Emitted
abbrev pub marked : Scope → ℕ → Scope
marked s x = record { states = set s.states x emitted; root = s.root; rank = s.rank }

-- a scope has 252 states, so that no let list is longer
module _ (s : Scope) (e : length s.states ≡ most) where
  pub low_few : low s.states ≤ most
  low_few = omega (arith, low_length s.states)

  pub marked_few : (x : ℕ) {st : List ℕ} → st ≡ set s.states x emitted → low st ≤ most
  marked_few x q = rw q (omega (arith, low_length (set s.states x emitted), length-set s.states x emitted))

module _ {b : Book} {t : Sites} (d : Drawn t b) (x : ℕ) (g : x < t.count) where
  use_known : (f : ℕ) (u : Use) → emitted ≤ state u.states x → use_below f b x u ≡ u
  unfolding use_below
  use_known zero u k = refl
  use_known (suc f) u k = rw (le-ltb (state u.states x) emitted k, use_below)

  use_new : (f : ℕ) → x < f → (u : Use) → state u.states x < emitted
      → use_below f b x u ≡ add_let b x (each (use_below (f - 1) b) (site_at t.words.now x).sources (mark x u))
  unfolding use_below
  use_new zero p u k = absurd (omega arith)
  use_new (suc f) p u k = let q : suc f - 1 ≡ f = omega arith in rw (q, lt-ltb (state u.states x) emitted k, d.at x g, use_below)

  pub use_again : (f : ℕ) (s : Scope) (o : Writer ℕ) → emitted ≤ state s.states x → Placed (use_below f b x) s o 0 s o
  use_again f s o k = record {
    added = [];
    uses = λ before.
        use_known f (record { states = s.states; lets = before }) k
        ∙ ap (λ (y : List ℕ). record { states = s.states; lets = y }) (sym (append-nil before));
    lets = refl;
    wrote = writes_none o;
    root = refl;
    rank = refl;
    spent = omega arith;
  }

  module _ (f : ℕ) (p : x < f) (s : Scope) (z : x < length s.states) (k : state s.states x < emitted)
      {o : Writer ℕ} {n : ℕ} {r : Scope} {m : Writer ℕ}
      (w : Placed (each (use_below (f - 1) b) (site_at t.words.now x).sources) (marked s x) o n r m) where
    -- the mark, then the sources
    use_marked : (before : List ℕ) → use_below f b x (record { states = s.states; lets = before })
        ≡ add_let b x (record { states = r.states; lets = before ++ w.added })
    unfolding mark
    use_marked before = use_new f p (record { states = s.states; lets = before }) k ∙ ap (add_let b x) (w.uses before)

    marked_low : suc (low (marked s x).states) ≡ low s.states
    marked_low = low_set s.states x z k

    pub use_unlisted : never_listed (site_at t.words.now x) ≡ true → Placed (use_below f b x) s o n r m
    unfolding add_let
    use_unlisted q = record {
      added = w.added;
      uses = λ before. use_marked before ∙ rw (d.at x g, q);
      lets = w.lets;
      wrote = w.wrote;
      root = w.root;
      rank = w.rank;
      spent = omega (arith, w.spent, marked_low);
    }

    pub use_listed : never_listed (site_at t.words.now x) ≡ false → {q : Writer ℕ} → Puts m x q
        → Placed (use_below f b x) s o (n + 1) r q
    unfolding add_let
    use_listed q v = record {
      added = w.added ++ (x ∷ []);
      uses = λ before. use_marked before ∙ rw (d.at x g, q, append_assoc);
      lets = simp length-append (omega (arith, w.lets));
      wrote = writes_put w.wrote v;
      root = w.root;
      rank = w.rank;
      spent = simp length-append (omega (arith, w.spent, marked_low));
    }

-- WHAT `use_expr` PROMISES of every book of the table
abbrev pub Used : Sites → ℕ → Scope → Writer ℕ → ℕ → Scope → Writer ℕ → Type 0
Used t x s o n r p = (b : Book) → Drawn t b → (f : ℕ) → x < f → Placed (use_below f b x) s o n r p

module _ {t : Sites} {x : ℕ} {s : Scope} {o : Writer ℕ} {n : ℕ} {r : Scope} {p : Writer ℕ} (u : Used t x s o n r p) where
  -- fuel enough is `use_site`
  pub used_site : {b : Book} → Drawn t b → Placed (use_site b x) s o n r p
  unfolding use_site
  used_site {b} d = u b d (suc x) (omega arith)

  -- no more is listed than is marked
  pub used_few : n + low r.states ≤ low s.states
  used_few = placed_few (u (sites_only t) (sites_drawn t) (suc x) (omega arith))

-- the sites of a rule
each_last : (f : ℕ → Use → Use) (xs : List ℕ) (y : ℕ) (u : Use) → each f (xs ++ (y ∷ [])) u ≡ f y (each f xs u)
each_last f [] y u = refl
each_last f (x ∷ xs) y u = each_last f xs y (f x u)

pub placed_uses : (b : Book) (k : Rule) {x : ℕ} → x ≡ k.result
    → {s : Scope} {o : Writer ℕ} {n : ℕ} {r : Scope} {p : Writer ℕ}
    → Placed (λ u. use_site b x (each (use_site b) k.impure u)) s o n r p → Placed (each (use_site b) (uses_of k)) s o n r p
unfolding uses_of
placed_uses b k e w = placed_as w (λ u. each_last (use_site b) k.impure k.result u ∙ rw (← e))

-- A STEP'S LET LIST: the place of its count is left before the uses, and filled in after them
pub lets_listed : {b : Book} {ss : List ℕ} {s : Scope} {o p : Writer ℕ} {n : ℕ} {r : Scope} {q k : Writer ℕ}
    → Puts o 0 p → Placed (each (use_site b) ss) s p n r q → Patches q o.at n k → Listed b ss s o n r k
unfolding use_all let_words
lets_listed {b} {ss} {s} {r = r} a w h =
    let e : each (use_site b) ss (record { states = s.states; lets = [] }) ≡ record { states = r.states; lets = w.added } = w.uses [] in
    record {
      scope = record { states = sym (ap (λ (u : Use). u.states) e); root = w.root; rank = w.rank };
      lets = w.lets ∙ sym (ap (λ (u : Use). length u.lets) e);
      wrote = rw (e, ← w.lets) (writes_patch (writes_then (writes_one a) w.wrote) h);
    }
