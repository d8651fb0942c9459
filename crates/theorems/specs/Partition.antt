-- What a right answer is, the partition by priority, and falling through from step to step.
use Rattle.std.specs.Prelude.{◌≡◌, ◌⊎◌, true, false, not, ℕ}
use Rattle.std.proofs.Math.Logic.{inl, inr}
use mathlib.Core.List.{List, Memᴰ}
use Rattle.std.proofs.Math.Option.{Option, none, some}
use Rattle.std.specs.Int.Signed.{le_z}
use Rattle.std.proofs.lemmas.Bool.{not-true}
use Rattle.definition.specs.Lists.{all}
use Rattle.definition.specs.Book.{Book, rule}
use Rattle.definition.specs.Walk.{Reading, Hit, matches}
use Rattle.definition.specs.Choice.{Test, has, at_least, no_bar, counts, counted, stays, deferred}
use Rattle.laws.specs.Firsts.{or_else}
use Rattle.laws.specs.Tests.{split, both, one_of, not_both, neither, clash}
use Rattle.laws.specs.Members.{all_at, all_fails, filter_in, filter_from}
use Rattle.laws.specs.Signed.{leℤ_trans, leℤ_other}

-- RIGHT ANSWERS. Rule j is at most rule i's priority
abbrev pub no_higher : Book → ℕ → ℕ → Type 0
no_higher b j i = le_z (rule b j).priority (rule b i).priority ≡ true

pub record Top (b : Book) (d : Reading) (w : List ℕ) (h : Hit) : Type 0 where
  pub member : Memᴰ h.rule w
  pub fires : matches b d h.rule ≡ true
  pub highest : (j : ℕ) → Memᴰ j w → matches b d j ≡ true → no_higher b j h.rule
  pub result : h.result ≡ (rule b h.rule).result

-- nothing, and no rule of W matches; or a matching rule of W that no matching rule of W outranks
abbrev pub Right : Book → Reading → List ℕ → Option Hit → Type 0
Right b d w none = (i : ℕ) → Memᴰ i w → matches b d i ≡ false
Right b d w (some h) = Top b d w h

-- PARTITION BY PRIORITY: a counted rule is of no lower priority than a deferred one
module _ (b : Book) (t : Test) (w : List ℕ) where
  pub counted_in : (i : ℕ) → Memᴰ i (counted b t w) → Memᴰ i w × (has (rule b i) t ≡ true)
  unfolding counted counts no_bar at_least
  counted_in i m = let r = filter_in (counts b t w) i w m in (r.0, (both (has (rule b i) t) _ r.1).0)

  pub deferred_in : (i : ℕ) → Memᴰ i (deferred b t w) → Memᴰ i w
  unfolding deferred stays
  deferred_in i m = (filter_in (stays b t w) i w m).0

  pub parted : (i : ℕ) → Memᴰ i w → Memᴰ i (counted b t w) ⊎ Memᴰ i (deferred b t w)
  unfolding counted deferred stays
  parted i m = go (split (counts b t w i))
    where
      go : (counts b t w i ≡ true) ⊎ (counts b t w i ≡ false) → Memᴰ i (counted b t w) ⊎ Memᴰ i (deferred b t w)
      go (inl e) = inl (filter_from (counts b t w) m e)
      go (inr e) = inr (filter_from (stays b t w) m (rw e))

  pub counted_above : (i j : ℕ) → Memᴰ i (counted b t w) → Memᴰ j (deferred b t w) → no_higher b j i
  unfolding counted deferred counts stays no_bar at_least
  counted_above i j mi mj = go (not_both (has (rule b j) t) _ (not-true _ qj.1))
    where
      qi : Memᴰ i w × (counts b t w i ≡ true)
      qi = filter_in (counts b t w) i w mi

      qj : Memᴰ j w × (not (counts b t w j) ≡ true)
      qj = filter_in (stays b t w) j w mj

      -- every rule that lacks the test is no_higher rule i
      lacking : (k : ℕ) → Memᴰ k w → has (rule b k) t ≡ false → no_higher b k i
      lacking k m e = pick (one_of (has (rule b k) t) _ (all_at (no_bar b t i) (both (has (rule b i) t) _ qi.1).1 m))
        where
          pick : (has (rule b k) t ≡ true) ⊎ no_higher b k i → no_higher b k i
          pick (inl q) = clash q e
          pick (inr q) = q

      go : (has (rule b j) t ≡ false) ⊎ ((has (rule b j) t ≡ true) × (all (no_bar b t j) w ≡ false)) → no_higher b j i
      go (inl e) = lacking j qj.0 e
      go (inr e) =
          let f = all_fails (no_bar b t j) w e.1 in
          let g = neither (has (rule b f.0) t) _ f.2 in
          leℤ_trans (rule b j).priority (rule b f.0).priority (rule b i).priority (leℤ_other (rule b f.0).priority (rule b j).priority g.1) (lacking f.0 f.1 g.0)

-- FALLING THROUGH
module _ (b : Book) (d : Reading) (t : Test) (w : List ℕ) where
  pub fall : (o₁ o₂ : Option Hit) → Right b d (counted b t w) o₁ → Right b d (deferred b t w) o₂ → Right b d w (or_else o₁ o₂)
  fall none none p q = λ i m. go i (parted b t w i m)
    where
      go : (i : ℕ) → Memᴰ i (counted b t w) ⊎ Memᴰ i (deferred b t w) → matches b d i ≡ false
      go i (inl n) = p i n
      go i (inr n) = q i n
  fall none (some h) p q = record {
    member = deferred_in b t w h.rule q.member;
    fires = q.fires;
    highest = λ j m e. go j e (parted b t w j m);
    result = q.result;
  }
    where
      go : (j : ℕ) → matches b d j ≡ true → Memᴰ j (counted b t w) ⊎ Memᴰ j (deferred b t w) → no_higher b j h.rule
      go j e (inl n) = clash e (p j n)
      go j e (inr n) = q.highest j n e
  fall (some h) o p q = record {
    member = (counted_in b t w h.rule p.member).0;
    fires = p.fires;
    highest = λ j m e. go j e (parted b t w j m);
    result = p.result;
  }
    where
      go : (j : ℕ) → matches b d j ≡ true → Memᴰ j (counted b t w) ⊎ Memᴰ j (deferred b t w) → no_higher b j h.rule
      go j e (inl n) = p.highest j n e
      go j e (inr n) = counted_above b t w h.rule j p.member n
