-- Laws of the definition's readers of words, as code meets them.
use mathlib.Core.Bool.{false, true}
use mathlib.Core.List.{List, [], ◌∷◌}
use mathlib.Core.Option.{none, some}
use mathlib.Core.Path.{◌≡◌, refl}
use Prim.Native.Nat.{◌-◌, ◌<◌, ◌≤◌, suc, zero, ℕ}
use native.Mathlib.Decide.{dec_le}
use native.Mathlib.Omega.{arith}
use lib.Dec.{eqb}
use lib.ListN.{drop, length, take}
use borrow.Author.Tests.{le-leb, lt-leb, lt-ltb}
use Rattle.definition.specs.Read.{Reader, ◌>>=◌, guarded, id_ok, number, numbers, read_block, read_counted, read_framed}
use Rattle.definition.specs.Tree.{Block}

pub id_no : (x : ℕ) → 251 < x → id_ok x ≡ false
unfolding id_ok
id_no x h = lt-leb (suc x) 252 (omega (arith, h))

pub id_yes : (x : ℕ) → x ≤ 251 → id_ok x ≡ true
unfolding id_ok
id_yes x h = lt-ltb x 252 (omega arith)

pub numbers_some : (n : ℕ) (l : List ℕ) → n ≤ length l → numbers n l ≡ some (take n l, drop n l)
numbers_some zero l h = refl
numbers_some (suc n) [] h = absurd (omega arith)
numbers_some (suc n) (x ∷ l) h = rw (numbers_some n l (omega arith))

pub numbers_none : (n : ℕ) (l : List ℕ) → length l < n → numbers n l ≡ none
numbers_none zero l h = absurd (omega arith)
numbers_none (suc n) [] h = refl
numbers_none (suc n) (x ∷ l) h = rw (numbers_none n l (omega arith))

-- a block's count, the words that it counts, and those behind
abbrev pub framed : Reader Block → Reader Block
framed sub w = number w >>= (λ c. numbers c.0 c.1 >>= (λ p. read_counted sub p.0 >>= (λ r. guarded (eqb (length r.1) 0) (some (r.0, p.1)))))

framed_is : (sub : Reader Block) (w : List ℕ) → read_framed sub w ≡ framed sub w
unfolding read_framed
framed_is sub [] = refl
framed_is sub (x ∷ w) = elim (dec_le x (length w)) [
  | yes p ↦ rw (le-leb x (length w) p, numbers_some x w p)
  | no p ↦ rw (lt-leb x (length w) (omega arith), numbers_none x w (omega arith))
]

pub block_is : (n : ℕ) (w : List ℕ) → (n ≡ 0 → ⊥) → read_block n w ≡ framed (read_block (n - 1)) w
unfolding read_block
block_is zero w h = absurd (h refl)
block_is (suc n) w h = let e : suc n - 1 ≡ n = omega arith in rw e (framed_is (read_block n) w)
