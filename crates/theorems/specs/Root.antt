-- What holds at the root of a tree: the frame of its block, and that nothing is matched or bound yet.
use Rattle.std.specs.Prelude.{◌≡◌, refl, List, [], ℕ, zero, suc, ◌+◌, ◌≤◌, length, replicate}
use mathlib.Core.List.Memᴰ
use Rattle.std.proofs.Common.{arith}
use Rattle.std.proofs.lemmas.List.{length-replicate}
use Rattle.definition.specs.Lists.{upto}
use Rattle.definition.specs.Book.{most, pair_slots, Book, rule}
use Rattle.definition.specs.Scope.{state, worked_out, nowhere, root}
use Rattle.definition.specs.Walk.{Reading}
use Rattle.laws.specs.Members.{from_bounds, filter_all}
use Rattle.theorems.specs.Accepted.{Passed, good, rule_in, rule_of}
use Rattle.theorems.specs.ArmStates.{avail_sites, avail_back, avail_firm}
use Rattle.theorems.specs.Classes.{spare_le}
use Rattle.theorems.specs.Frame.{Frame, left, untested, untested_at}
use Rattle.theorems.specs.WalkRight.{Facts}

zeros : (n x : ℕ) → state (replicate n 0) x ≡ 0
zeros zero x = refl
zeros (suc n) zero = refl
zeros (suc n) (suc x) = zeros n x

zero_state : (x : ℕ) → state nowhere x ≡ 0
unfolding nowhere
zero_state x = zeros most x

full : length nowhere ≡ most
unfolding nowhere
full = length-replicate {A = ℕ} most 0

no_three : (b : Book) (s : ℕ) → state (root b).states s ≡ 3 → ⊥
unfolding root
no_three b s e = let z = zero_state s in let y = avail_back b nowhere s e in omega arith

pub root_frame : (m n : ℕ) (b : Book) → Passed m b → length b.sites ≤ 252 → m + pair_slots ≤ n → Frame b n (root b) (upto (length b.rules))
unfolding root left untested
root_frame m n b h l k = record {
  sites = avail_sites b nowhere (good m b h) (let z = full in omega arith) full
      (λ x p r q. absurd (let z = zero_state x in omega arith)) (λ x e p y q. absurd (let z = zero_state x in omega arith)) (λ x e p. absurd (let z = zero_state x in omega arith));
  known = λ i q. let z = from_bounds 0 (length b.rules) i q in omega arith;
  marked = λ i q s e. absurd (no_three b s e);
  bound = λ i q x e f y p g. absurd (no_three b y g);
  room = λ i q.
      let r = rule_of m b h i (rule_in b i (let z = from_bounds 0 (length b.rules) i q in omega arith)) in
      let u = filter_all (untested_at (worked_out b nowhere)) (rule b i).constraints in
      let v = spare_le [] (rule b i).pairs in
      omega arith;
}

pub root_facts : (b : Book) (d : Reading) (w : List ℕ) → Facts b d (root b) w
unfolding root
root_facts b d w = record { tests_hold = λ i q s e. absurd (no_three b s e); pairs_hold = λ p q. absurd (Memᴰ.not-nil q) }

pub root_cover : (b : Book) (x : ℕ) → 2 ≤ state (root b).states x → ⊥
unfolding root
root_cover b x h = let z = zero_state x in let y = avail_firm b nowhere x h in omega arith
