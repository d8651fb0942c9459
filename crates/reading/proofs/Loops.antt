-- A loop that reads things one after another: the reading of what is left settles that of the whole.
use Rattle.std.proofs.Common.{◌≡◌, ℕ, zero, suc, ◌+◌, ◌-◌, ◌<◌, ◌≤◌, arith, refl, ap, ◌∙◌, Bor}
use Rattle.std.specs.Prelude as std
use mathlib.Core.List.{List}
use mathlib.Core.Option.{Option, none, some}
use Rattle.definition.specs.Read.{Reader, ◌>>=◌}
use Rattle.definition.specs.Book.{Pattern}
use Rattle.definition.specs.Tree.{Block, Flow, Arms, step, arm}
use Rattle.reading.specs.Ends.{Ends}

-- before thing i of n, in the words `rest`: `many` reads what is left, o is the reading of the whole. After k, which is left, a reader is
-- what it is after the whole
pub record Loop {A B S : Type 0} (many : ℕ → Reader A) (o : Option (B × List ℕ)) (whole : B → S) (left : A → S) (n i : ℕ) (rest : List ℕ) : Type 0 where
  pub fails : many (n - i) rest ≡ none → o ≡ none
  pub goes : (k : A) (r : List ℕ) → many (n - i) rest ≡ some (k, r) → (b : B) × (o ≡ some (b, r)) × (whole b ≡ left k)

module _ {A B S : Type 0} {many : ℕ → Reader A} {o : Option (B × List ℕ)} {whole : B → S} where
  -- f is the whole of what is left at first
  pub loop_starts : (f : A → B) {left : A → S} {n : ℕ} {w : List ℕ} → o ≡ (many n w >>= (λ r. some (f r.0, r.1))) → ((k : A) → whole (f k) ≡ left k) → Loop many o whole left n 0 w
  loop_starts f {left} {n} {w} e h =
      let z : n - 0 ≡ n = omega arith in
      record { fails = λ q. e ∙ rw (← z, q); goes = λ k r q. (f k, e ∙ rw (← z, q), h k) }

  module _ {left : A → S} {n i : ℕ} {w : List ℕ} (v : Loop many o whole left n i w) where
    -- more things are one and the others
    module _ {X : Type 0} (one : Reader X) (put : X → A → A) (more : (m : ℕ) (u : List ℕ) → many (suc m) u ≡ (one u >>= (λ x. many m x.1 >>= (λ r. some (put x.0 r.0, r.1))))) (h : i < n) where
      one_left : n - i ≡ suc (n - (i + 1))
      one_left = omega arith

      pub loop_stop : one w ≡ none → o ≡ none
      loop_stop q = v.fails (rw (one_left, more, q))

      pub loop_turn : {f : X → S} {left' : A → S} {s : S} {rest : Bor (List ℕ)} → Ends f (one w) (std.Some rest) s → ((x : X) (k : A) → s ≡ f x → left (put x k) ≡ left' k) → Loop many o whole left' n (i + 1) rest.now
      loop_turn e so = record {
        fails = λ q. v.fails (rw (one_left, more, e.is.1, q));
        goes = λ k r q. let z = v.goes (put e.is.0 k) r (rw (one_left, more, e.is.1, q)) in (z.0, z.1, z.2 ∙ so e.is.0 k e.is.2);
      }

    pub loop_ends : n ≤ i → (no_more : A) → ((u : List ℕ) → many zero u ≡ some (no_more, u)) → (b : B) × (o ≡ some (b, w)) × (whole b ≡ left no_more)
    loop_ends h k e = let j : n - i ≡ 0 = omega arith in v.goes k w (rw (j, e))

pub as_read : {A : Type 0} (o : Option (A × List ℕ)) → o ≡ (o >>= (λ r. some (r.0, r.1)))
as_read none = refl
as_read (some r) = refl

-- a step and those behind it, an arm and those behind it
abbrev pub step_onto : List ℕ × Flow → Block → Block
step_onto x k = step x.0 x.1 k

abbrev pub arm_onto : (Pattern × List (Option ℕ)) × Block → Arms → Arms
arm_onto x k = arm x.0.0 x.0.1 x.1 k

-- one thing, and another behind it
pub ends_then : {A B S : Type 0} (one : Reader A) (two : Reader B) (both : Reader (A × B)) → ((u : List ℕ) → both u ≡ (one u >>= (λ x. two x.1 >>= (λ y. some ((x.0, y.0), y.1)))))
    → (f : A → S) (h : S → B → S) {s t : S} (w : List ℕ) (rest : Bor (List ℕ)) (r : std.Option (Bor (List ℕ))) → Ends f (one w) (std.Some rest) s → Ends (h s) (two rest.now) r t → Ends (λ x. h (f x.0) x.1) (both w) r t
ends_then one two both e f h w rest std.None p q = record { is = rw (e, p.is.1, q.is) }
ends_then one two both e f h w rest (std.Some last) p q = record { is = ((p.is.0, q.is.0), rw (e, p.is.1, q.is.1), q.is.2 ∙ ap (λ s. h s q.is.0) p.is.2) }
