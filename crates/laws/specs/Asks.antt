-- Laws of a loop over k below n that asks a test of each element and stops where the answer is settled (see Runs): `all` at the first that fails,
-- `first` at the first that passes.
use Rattle.std.specs.Prelude.{◌≡◌, Bool, true, false, List, ℕ, suc, ◌+◌, ◌-◌, ◌≤◌, ◌<◌}
use Rattle.std.proofs.Math.Option.{none, some}
use Rattle.std.proofs.Common.{arith, add-one}
use Rattle.definition.specs.Lists.{from, all, first}
use Rattle.laws.specs.Runs.{Runs}

-- the numbers below n
pub in_range : (n : ℕ) → Runs (λ k. from k (n - k)) (λ k. k) n
in_range n = record {
  more = λ k h. let e : n - k ≡ suc (n - (k + 1)) = omega arith in rw (e, add-one k);
  none = λ k h. let e : n - k ≡ 0 = omega arith in rw e;
}

module _ {A : Type 0} {xs : ℕ → List A} {g : ℕ → A} {n : ℕ} (r : Runs xs g n) (p : A → Bool) (k : ℕ) where
  pub all_pass : k < n → p (g k) ≡ true → all p (xs (k + 1)) ≡ all p (xs k)
  all_pass h e = rw (r.more k h, e)

  pub all_fail : k < n → p (g k) ≡ false → all p (xs k) ≡ false
  all_fail h e = rw (r.more k h, e)

  pub all_end : n ≤ k → all p (xs k) ≡ true
  all_end h = rw (r.none k h)

  pub first_skip : k < n → p (g k) ≡ false → first p (xs (k + 1)) ≡ first p (xs k)
  first_skip h e = rw (r.more k h, e)

  pub first_hit : k < n → p (g k) ≡ true → first p (xs k) ≡ some (g k)
  first_hit h e = rw (r.more k h, e)

  pub first_end : n ≤ k → first p (xs k) ≡ none
  first_end h = rw (r.none k h)
