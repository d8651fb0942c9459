-- Laws of signed numbers: their order, and what it is to be the same.
use Rattle.std.specs.Prelude.{◌≡◌, refl, true, false, ℤ, pos, negsuc}
use Rattle.std.proofs.lemmas.Bool.{false≢true}
use Rattle.std.proofs.Common.{true≢false, arith, leb-true, leb-false, le-leb}
use Rattle.std.specs.Int.Signed.{le_z}

pub leℤ_refl : (a : ℤ) → le_z a a ≡ true
leℤ_refl (pos a) = le-leb a a (omega arith)
leℤ_refl (negsuc a) = le-leb a a (omega arith)

pub leℤ_trans : (a b c : ℤ) → le_z a b ≡ true → le_z b c ≡ true → le_z a c ≡ true
leℤ_trans (pos a) (pos b) (pos c) p q = le-leb a c (omega (arith, leb-true a b p, leb-true b c q))
leℤ_trans (pos a) (pos b) (negsuc c) p q = q
leℤ_trans (pos a) (negsuc b) c p q = absurd (false≢true p)
leℤ_trans (negsuc a) (pos b) (pos c) p q = refl
leℤ_trans (negsuc a) (pos b) (negsuc c) p q = absurd (false≢true q)
leℤ_trans (negsuc a) (negsuc b) (pos c) p q = refl
leℤ_trans (negsuc a) (negsuc b) (negsuc c) p q = le-leb c a (omega (arith, leb-true b a p, leb-true c b q))

pub leℤ_other : (a b : ℤ) → le_z a b ≡ false → le_z b a ≡ true
leℤ_other (pos a) (pos b) p = le-leb b a (omega (arith, leb-false a b p))
leℤ_other (pos a) (negsuc b) p = refl
leℤ_other (negsuc a) (pos b) p = absurd (true≢false p)
leℤ_other (negsuc a) (negsuc b) p = le-leb a b (omega (arith, leb-false b a p))
