-- Signed numbers are ordered as their words are, the sign's bit turned; and two words of one number are one word.
use Rattle.std.proofs.Common.{◌≡◌, ℕ, suc, ◌-◌, ◌^◌, ◌<◌, true, false, eqb, ltb, leb, ◌⊎◌, List, pos, negsuc, sym, ap, ◌∙◌, subst, inl, inr, arith, ltb-false, ltb-true, eq-eqb, eqb-true, le-leb, leb-true}
use lib.Signed.{le_z}
use Rattle.std.specs.Int.{cast_signed}
use mir.Syntax.{w32}
use borrow.Author.Tests.{lt-leb}
use Rattle.definition.specs.Book.{slots}
use Rattle.definition.specs.Lists.{same_number}
use Rattle.definition.specs.Tables.{signed, rule_at}
use Rattle.laws.specs.Orders.{same_number_equal, same_number_self}
use Rattle.laws.specs.Signed.{leℤ_refl}
use Rattle.laws.specs.Tests.{split, same_order}
use Rattle.tables.specs.Held.{Words, biased, rank_of}

-- the definition's signed number of a word is that of the library
pub signed_is : (w : ℕ) → w < 2 ^ 32 → cast_signed w32 w ≡ signed w
signed_is w h = go (split (ltb w 0x8000_0000))
  where
    go : (ltb w 0x8000_0000 ≡ true) ⊎ (ltb w 0x8000_0000 ≡ false) → cast_signed w32 w ≡ signed w
    go (inl p) = rw p
    go (inr p) = let e : 2 ^ 32 - suc w ≡ 0xFFFF_FFFF - w = omega arith in rw p (ap negsuc e)

pub signed_order : (a b : ℕ) → a < 2 ^ 32 → b < 2 ^ 32 → le_z (signed a) (signed b) ≡ leb (biased a) (biased b)
signed_order a b ha hb = go (split (ltb a 0x8000_0000)) (split (ltb b 0x8000_0000))
  where
    go : (ltb a 0x8000_0000 ≡ true) ⊎ (ltb a 0x8000_0000 ≡ false) → (ltb b 0x8000_0000 ≡ true) ⊎ (ltb b 0x8000_0000 ≡ false) → le_z (signed a) (signed b) ≡ leb (biased a) (biased b)
    go (inl p) (inl q) = let x = ltb-true a 0x8000_0000 p in let y = ltb-true b 0x8000_0000 q in rw (p, q) (same_order a b (biased a) (biased b) (λ h. omega arith) (λ h. omega arith))
    go (inl p) (inr q) = let x = ltb-true a 0x8000_0000 p in let y = ltb-false b 0x8000_0000 q in rw (p, q) (sym (lt-leb (biased a) (biased b) (omega arith)))
    go (inr p) (inl q) = let x = ltb-false a 0x8000_0000 p in let y = ltb-true b 0x8000_0000 q in rw (p, q) (sym (le-leb (biased a) (biased b) (omega arith)))
    go (inr p) (inr q) = let x = ltb-false a 0x8000_0000 p in let y = ltb-false b 0x8000_0000 q in rw (p, q) (same_order (0xFFFF_FFFF - b) (0xFFFF_FFFF - a) (biased a) (biased b) (λ h. omega arith) (λ h. omega arith))

-- rule i's priority is at most rule j's
pub priority_order : (t : List ℕ) → Words t → (i j : ℕ) → le_z (rule_at slots t i).priority (rule_at slots t j).priority ≡ leb (rank_of t i) (rank_of t j)
unfolding rule_at
priority_order t w i j = signed_order _ _ (w _) (w _)

pub signed_back : (a b : ℕ) → a < 2 ^ 32 → b < 2 ^ 32 → signed a ≡ signed b → a ≡ b
signed_back a b ha hb e =
    let x = leb-true (biased a) (biased b) (sym (signed_order a b ha hb) ∙ subst (λ z. le_z (signed a) z ≡ true) e (leℤ_refl (signed a))) in
    let y = leb-true (biased b) (biased a) (sym (signed_order b a hb ha) ∙ subst (λ z. le_z z (signed a) ≡ true) e (leℤ_refl (signed a))) in
    omega arith

pub same_word : (a b : ℕ) → a < 2 ^ 32 → b < 2 ^ 32 → eqb a b ≡ same_number (signed a) (signed b)
same_word a b ha hb = go (split (same_number (signed a) (signed b))) (split (eqb a b))
  where
    go : (same_number (signed a) (signed b) ≡ true) ⊎ (same_number (signed a) (signed b) ≡ false) → (eqb a b ≡ true) ⊎ (eqb a b ≡ false) → eqb a b ≡ same_number (signed a) (signed b)
    go (inl e) q = eq-eqb a b (signed_back a b ha hb (same_number_equal (signed a) (signed b) e)) ∙ sym e
    go (inr e) (inl q) = q ∙ sym (subst (λ z. same_number (signed a) (signed z) ≡ true) (eqb-true a b q) (same_number_self (signed a)))
    go (inr e) (inr q) = q ∙ sym e

pub zero_word : (a : ℕ) → a < 2 ^ 32 → eqb a 0 ≡ same_number (signed a) (pos 0)
zero_word a ha = same_word a 0 ha (omega arith)
