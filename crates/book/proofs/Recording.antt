-- The words of a record are the fields that were read.
use Prim.Native.Nat.{ℕ, ◌+◌, ◌*◌, ◌≤◌}
use mathlib.Core.Path.{◌≡◌, refl, sym, ap, ap₂, ◌∙◌}
use mathlib.Core.Bool.{Bool, true, false}
use mathlib.Core.List.{List, [], ◌∷◌, ◌++◌, map}
use native.Mathlib.Omega.{arith}
use lib.ListN.{length, take, drop, length-append}
use lib.Seq.{sets, sets-eq}
use Rattle.std.proofs.Common.{append_assoc}
use Rattle.std.proofs.lemmas.List.{drop-drop}
use borrow.Rule.Slice.PartMut.{put_mid}
use borrow.Author.Tests.{eq-eqb, ne_eqb}
use Rattle.definition.specs.Lists.{◌is◌, upto, flat}
use Rattle.std.specs.Prelude.{if◌then◌else◌}
use Rattle.definition.specs.Book.{slots}
use Rattle.definition.specs.Bytes.{byte, le16, le32, site_fields, constraint_fields, id_field, rule_fields, site_record, rule_record, site_table, rule_table}
use Rattle.laws.specs.Turns.{flat_length}
use Rattle.laws.specs.Stores.{three_runs}

-- SITES
pub site_bound : (b : List ℕ) (o u v w x y z : ℕ) → u ≡ 7 → u ≡ byte b o → v ≡ byte b (o + 1) → w ≡ le16 b (o + 2) → x ≡ byte b (o + 4) → y ≡ byte b (o + 5) → z ≡ le32 b (o + 6)
    → (u ∷ v ∷ w ∷ x ∷ y ∷ z ∷ []) ≡ site_fields b o
unfolding site_fields
site_bound b o u v w x y z k eu ev ew ex ey ez = rw (eq-eqb (byte b o) 7 (sym eu ∙ k), eu, ev, ew, ex, ey, ez)

pub site_plain : (b : List ℕ) (o u v w x y z : ℕ) → (u ≡ 7 → ⊥) → u ≡ byte b o → v ≡ byte b (o + 1) → w ≡ le16 b (o + 2) → x ≡ le16 b (o + 4) → y ≡ le16 b (o + 6) → z ≡ le16 b (o + 8)
    → (u ∷ v ∷ w ∷ x ∷ y ∷ z ∷ []) ≡ site_fields b o
unfolding site_fields
site_plain b o u v w x y z k eu ev ew ex ey ez = rw (ne_eqb (byte b o) 7 (λ q. k (eu ∙ q)), eu, ev, ew, ex, ey, ez)

pub length_site_fields : (b : List ℕ) (o : ℕ) → length (site_fields b o) ≡ 6
unfolding site_fields
length_site_fields b o = either_way (byte b o is 7) 6 _ _ refl refl
  where
    either_way : (t : Bool) (n : ℕ) (x y : List ℕ) → length x ≡ n → length y ≡ n → length (if t then x else y) ≡ n
    either_way true n x y p q = p
    either_way false n x y p q = q

pub length_site_table : (b : List ℕ) (S : ℕ) → length (site_table b S) ≡ 6 * S
unfolding site_table site_record
length_site_table b S = flat_length (site_record b) 6 S (λ i. length_site_fields b _)

-- RULES
pub four_fields : (b : List ℕ) (o k : ℕ) → length (constraint_fields b o k) ≡ 4
unfolding constraint_fields
four_fields b o k = refl

front : {a b c d e f u v w x y z : ℕ} → a ≡ u → b ≡ v → c ≡ w → d ≡ x → e ≡ y → f ≡ z → (a ∷ b ∷ c ∷ d ∷ e ∷ f ∷ []) ≡ (u ∷ v ∷ w ∷ x ∷ y ∷ z ∷ [])
front p q r s t u = rw (p, q, r, s, t, u)

pub length_rule_fields : (b : List ℕ) (o : ℕ) → length (rule_fields slots b o) ≡ 34
unfolding rule_fields
length_rule_fields b o =
    simp length-append (omega (arith, four_fields b o 0, four_fields b o 1, four_fields b o 2, four_fields b o 3))

pub rule_run : (b : List ℕ) (o at u v w x y z : ℕ) (l l1 l2 l3 : List ℕ)
    → u ≡ le32 b o → v ≡ le32 b (o + 4) → w ≡ le16 b (o + 8) → x ≡ byte b (o + 10) → y ≡ byte b (o + 11) → z ≡ byte b (o + 12)
    → l1 ≡ sets l at (u ∷ v ∷ w ∷ x ∷ y ∷ z ∷ [])
    → l2 ≡ sets l1 (at + 6) (flat (constraint_fields b o) (upto slots))
    → l3 ≡ sets l2 (at + 22) (map (id_field slots b o) (upto 12))
    → l3 ≡ sets l at (rule_fields slots b o)
unfolding rule_fields
rule_run b o at u v w x y z l l1 l2 l3 eu ev ew ex ey ez e1 e2 e3 =
    let h : length (flat (constraint_fields b o) (upto slots)) ≡ 16 = flat_length (constraint_fields b o) 4 4 (four_fields b o) in
    e3
    ∙ ap (λ (m : List ℕ). sets m (at + 22) (map (id_field slots b o) (upto 12))) (e2 ∙ ap (λ (m : List ℕ). sets m (at + 6) (flat (constraint_fields b o) (upto slots))) (e1 ∙ ap (sets l at) (front eu ev ew ex ey ez)))
    ∙ three_runs l at (at + 6) (at + 22) (le32 b o ∷ le32 b (o + 4) ∷ le16 b (o + 8) ∷ byte b (o + 10) ∷ byte b (o + 11) ∷ byte b (o + 12) ∷ []) (flat (constraint_fields b o) (upto slots)) (map (id_field slots b o) (upto 12)) refl (omega arith)

pub length_rule_table : (b : List ℕ) (S R : ℕ) → length (rule_table slots b S R) ≡ 34 * R
unfolding rule_table rule_record
length_rule_table b S R = flat_length (rule_record slots S b) 34 R (λ i. length_rule_fields b _)

-- a run of words written over a part of a list
pub written : (l ys vs : List ℕ) (at k : ℕ) → ys ≡ vs → k ≡ length vs → at + length vs ≤ length l → put_mid at k l ys ≡ sets l at vs
written l ys vs at k e n h =
    ap₂ (λ (x : List ℕ) (m : ℕ). put_mid at m l x) e n
    ∙ ap (λ (r : List ℕ). take at l ++ (vs ++ r)) (drop-drop (length vs) at l)
    ∙ sym (append_assoc (take at l) vs (drop (at + length vs) l))
    ∙ sym (sets-eq vs l at h)
