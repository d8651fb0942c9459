-- The digits of a number, and the places of an arm.
use mathlib.Core.Path.{◌≡◌, refl, ap, ◌∙◌}
use mathlib.Core.List.{List, [], ◌∷◌, ◌++◌, map}
use Prim.Native.Nat.{ℕ, zero, suc, ◌+◌, ◌-◌, ◌/◌, ◌%◌, ◌^◌, ◌<◌, ◌≤◌}
use native.Mathlib.Omega.{arith}
use borrow.Author.Tests.{lt-ltb, le-ltb}
use lib.IntN.{ℤ, pos, negsuc}
use lib.ListN.{length}
use mir.Syntax.{w32}
use mir.Val.{SFits, of_z, to_z}
use mir.Facts.{to_z-of_z}
use Rattle.std.specs.Prelude.{if◌then◌else◌}
use Rattle.definition.specs.Lists.{◌below◌, flat}
use Rattle.definition.specs.Read.{place_of}
use Rattle.definition.specs.Tables.{signed}
use Rattle.definition.specs.Listing.{text, digits, decimal, kind_text, place_text, places_text}
use Rattle.room.proofs.Written.{writes_then, writes_as}
use Rattle.room.specs.Wrote.{Writes}
use Rattle.room.specs.declared.Writer.{Writer}
use Rattle.line.specs.Writes.{Spelled}

-- DIGITS
pub spelled_one : {o p : Writer ℕ} (n : ℕ) → n < 10 → Writes o ((48 + n % 10) ∷ []) p → Spelled n o p
unfolding digits
spelled_one n h w = record { is = λ k b. writes_as w (rw (lt-ltb n 10 h)) }

pub spelled_more : {o p q : Writer ℕ} (n : ℕ) → 10 ≤ n → Spelled (n / 10) o p → Writes p ((48 + n % 10) ∷ []) q → Spelled n o q
unfolding digits
spelled_more {o} {p} {q} n h s w = record { is = go }
  where
    go : (k : ℕ) → n < 10 ^ suc k → Writes o (digits (suc k) n) q
    go zero b = absurd (omega arith)
    go (suc k) b = rw (le-ltb n 10 h) (writes_then (s.is k (omega arith)) w)

pub spelled_decimal : {o p : Writer ℕ} (n : ℕ) → n < 2 ^ 32 → Spelled n o p → Writes o (decimal n) p
unfolding decimal
spelled_decimal n h s = s.is 9 (omega arith)

-- the word of a signed number says it
signed_back : {z : ℤ} → SFits w32 z → signed (of_z w32 z) ≡ z
signed_back {z} h =
    let n = of_z w32 z in
    let e : 4294967295 - n ≡ 4294967296 - suc n = omega arith in
    ap (λ k. if n below 2147483648 then pos n else negsuc k) e ∙ to_z-of_z h

pub kind_said : (k : ℕ) {z : ℤ} → SFits w32 z → {w : ℕ} → w ≡ of_z w32 (to_z w32 (of_z w32 z))
    → kind_text k (signed w) ≡ kind_text k z
kind_said k {z} h e = ap (kind_text k) (ap signed (e ∙ ap (of_z w32) (to_z-of_z h)) ∙ signed_back h)

-- PLACES: words, each written as the place that it is
abbrev pub place_said : ℕ → List ℕ
place_said x = place_text (place_of x)

each_said : (s : List ℕ) → flat place_said s ≡ flat place_text (map place_of s)
each_said [] = refl
each_said (x ∷ s) = ap (λ t. place_said x ++ t) (each_said s)

pub all_said : (s : List ℕ) → (length s ≡ 0 → ⊥) → text " places" ++ flat place_said s ≡ places_text (map place_of s)
all_said [] h = absurd (h refl)
all_said (x ∷ s) h = ap (λ t. text " places" ++ t) (each_said (x ∷ s))
