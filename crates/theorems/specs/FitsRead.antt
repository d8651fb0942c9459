-- Every tree that is read from words of 32 bits fits, so two lists of words that are read as different trees have different listings.
use Rattle.std.specs.Prelude.{◌≡◌, refl, ◌⊎◌, Bool, true, false, ◌&&◌, List, [], ◌∷◌, map, ℤ, pos, ltb, eqb, take, drop, if◌then◌else◌}
use Rattle.std.proofs.Common.{sym, ap, subst, ◌∙◌, inl, inr, arith, ltb-true, ltb-false, leb-true, eq-eqb}
use Rattle.std.proofs.Math.Option.{Option, none, some}
use Prim.Native.Nat.{ℕ, zero, suc, ◌^◌, ◌≤◌}
use Rattle.std.proofs.Math.ListN.{length}
use Rattle.std.proofs.lemmas.List.{length-map}
use Rattle.definition.specs.Lists.{◌at_most◌, ◌is◌, same_number, all}
use Rattle.definition.specs.Tables.{signed}
use Rattle.definition.specs.Accept.{pattern_ok}
use Rattle.definition.specs.Tree.{Block}
use Rattle.definition.specs.Read.{Reader, ◌>>=◌, guarded, number, numbers, id_ok, place_of, place_ok, read_lets, read_places, read_pattern, read_arm, read_arms, read_flow, read_tagged, read_step, read_steps, read_counted, read_framed, read_block}
use Rattle.definition.specs.Listing.{magnitude, listing}
use Rattle.laws.specs.Tests.{split, both, every_at, implied}
use Rattle.laws.specs.Orders.{same_number_equal}
use Rattle.theorems.specs.Letters.{Small, Kind, PlacesFit}
use Rattle.theorems.specs.Shown.{AllSmall, ArmFits, Fits, FlowFits, ArmsFit, nothing_hidden}

-- nothing is read, or what is read is as P says, and the words behind it are of 32 bits
abbrev fine : {A : Type 0} → (A → Type 0) → Option (A × List ℕ) → Type 0
fine P none = Unit {0}
fine P (some x) = P x.0 × AllSmall x.1

record Fine {A : Type 0} (P : A → Type 0) (o : Option (A × List ℕ)) : Type 0 where
  pub so : fine P o

-- a reader of words of 32 bits
abbrev Keeps : {A : Type 0} → (A → Type 0) → Reader A → Type 0
Keeps P read = (ws : List ℕ) → AllSmall ws → Fine P (read ws)

module _ {A : Type 0} {P : A → Type 0} where
  read_so : {a : A} {r : List ℕ} → P a → AllSmall r → Fine P (some (a, r))
  read_so p h = record { so = (p, h) }

  none_read : Fine P none
  none_read = record { so = tt }

  guard : (t : Bool) {o : Option (A × List ℕ)} → (t ≡ true → Fine P o) → Fine P (guarded t o)
  guard true h = h refl
  guard false h = none_read

  -- go on with what was read
  on_from : {B : Type 0} {Q : B → Type 0} {o : Option (A × List ℕ)} {f : A × List ℕ → Option (B × List ℕ)} → Fine P o → ((x : A × List ℕ) → P x.0 → AllSmall x.1 → Fine Q (f x)) → Fine Q (o >>= f)
  on_from {o = none} h k = record { so = tt }
  on_from {o = some x} h k = k x h.so.0 h.so.1

  on_read : {Q : A → Type 0} {o : Option (A × List ℕ)} → Fine P o → ((a : A) → P a → Q a) → Fine Q o
  on_read {o = none} h k = record { so = tt }
  on_read {o = some x} h k = record { so = (k x.0 h.so.0, h.so.1) }

-- NUMBERS
number_keeps : Keeps Small number
number_keeps [] h = none_read
number_keeps (x ∷ ws) h = read_so h.0 h.1

numbers_keep : (n : ℕ) → Keeps (λ l. AllSmall l × (n ≡ length l)) (numbers n)
numbers_keep zero ws h = read_so (tt, refl) h
numbers_keep (suc n) [] h = none_read
numbers_keep (suc n) (x ∷ ws) h = on_from (numbers_keep n ws h.1) (λ r p hr. read_so ((h.0, p.0), ap suc p.1) hr)

take_small : (n : ℕ) (ws : List ℕ) → AllSmall ws → AllSmall (take n ws)
take_small zero ws h = tt
take_small (suc n) [] h = tt
take_small (suc n) (x ∷ ws) h = (h.0, take_small n ws h.1)

drop_small : (n : ℕ) (ws : List ℕ) → AllSmall ws → AllSmall (drop n ws)
drop_small zero ws h = h
drop_small (suc n) [] h = tt
drop_small (suc n) (x ∷ ws) h = drop_small n ws h.1

lets_keep : Keeps AllSmall read_lets
unfolding read_lets
lets_keep ws h = on_from (number_keeps ws h) (λ m p hm. on_from (numbers_keep m.0 m.1 hm) (λ l q hl. guard (all id_ok l.0) (λ t. read_so q.0 hl)))

-- PLACES AND PATTERNS
placed : (l : List ℕ) → AllSmall l → PlacesFit (map place_of l)
placed [] h = tt
placed (x ∷ l) h = go (eqb x 65535) (placed l h.1)
  where
    go : (t : Bool) → PlacesFit (map place_of l) → PlacesFit (if◌then◌else◌ t none (some x) ∷ map place_of l)
    go true f = f
    go false f = (h.0, f)

places_keep : (n : ℕ) → Keeps (λ ps. PlacesFit ps × (n ≡ length ps)) (read_places n)
unfolding read_places
places_keep n ws h = on_from (numbers_keep n ws h) (λ l p hl. guard (all place_ok (map place_of l.0)) (λ t. read_so (placed l.0 p.0, p.1 ∙ sym (length-map l.0 place_of)) hl))

signed_fits : (w : ℕ) → Small w → magnitude (signed w) ≤ 2 ^ 31
signed_fits w h = go (split (ltb w 0x8000_0000))
  where
    go : (ltb w 0x8000_0000 ≡ true) ⊎ (ltb w 0x8000_0000 ≡ false) → magnitude (signed w) ≤ 2 ^ 31
    go (inl e) = rw e (omega (arith, ltb-true w 0x8000_0000 e))
    go (inr e) = rw e (omega (arith, ltb-false w 0x8000_0000 e))

kind_fits : (k f : ℕ) (z : ℤ) → pattern_ok (record { kind = k; number = z; fields = f }) ≡ true → magnitude z ≤ 2 ^ 31 → Kind k z
unfolding pattern_ok
kind_fits k f z e h = record {
  known = leb-true k 3 (every_at _ 0 e);
  nought = λ q. same_number_equal z (pos 0) (both (eqb f 1) (same_number z (pos 0)) (implied (eqb k 3) _ (eq-eqb k 3 q) (every_at _ 3 e))).1;
  fits = h;
}

pattern_keeps : Keeps (λ a. ArmFits a.0 a.1) read_pattern
unfolding read_pattern
pattern_keeps ws h =
    on_from (number_keeps ws h) (λ k pk hk.
    on_from (number_keeps k.1 hk) (λ f pf hf.
    on_from (number_keeps f.1 hf) (λ z pz hz.
    on_from {P = λ ps. ArmFits (record { kind = k.0; number = signed z.0; fields = f.0 }) ps}
    (guard (pattern_ok (record { kind = k.0; number = signed z.0; fields = f.0 })) (λ t. on_read (places_keep f.0 z.1 hz) (λ ps p. record { kind = kind_fits k.0 f.0 (signed z.0) t (signed_fits z.0 pz); places = p.0; count = p.1 })))
    (λ s ps hs. read_so ps hs))))

-- ARMS, FLOWS AND STEPS, where nested blocks fit
module _ (sub : Reader Block) (keeps : Keeps Fits sub) where
  arm_keeps : Keeps (λ a. ArmFits a.0.0 a.0.1 × Fits a.1) (read_arm sub)
  unfolding read_arm
  arm_keeps ws h = on_from (pattern_keeps ws h) (λ a p ha. on_from (keeps a.1 ha) (λ k q hk. read_so (p, q) hk))

  arms_keep : (n : ℕ) → Keeps ArmsFit (read_arms sub n)
  unfolding ArmsFit
  arms_keep zero ws h = read_so tt h
  arms_keep (suc n) ws h = on_from (arm_keeps ws h) (λ a p ha. on_from (arms_keep n a.1 ha) (λ r q hr. read_so (p.0, (p.1, q)) hr))

  flow_keeps : (t : ℕ) → Keeps FlowFits (read_flow sub t)
  unfolding read_flow FlowFits
  flow_keeps zero ws h =
      on_from (number_keeps ws h) (λ s p hs.
      on_from (number_keeps s.1 hs) (λ n q hn.
      on_from (guard (id_ok s.0) (λ t. arms_keep n.0 n.1 hn)) (λ r v hr. read_so (p, v) hr)))
  flow_keeps (suc zero) ws h =
      on_from (number_keeps ws h) (λ x p hx.
      on_from (number_keeps x.1 hx) (λ y q hy.
      on_from (guard (ltb x.0 y.0 && id_ok y.0) (λ t. keeps y.1 hy)) (λ k v hk. read_so (p, (q, v)) hk)))
  flow_keeps (suc (suc zero)) ws h = none_read
  flow_keeps (suc (suc (suc zero))) ws h =
      on_from (number_keeps ws h) (λ i p hi.
      on_from (number_keeps i.1 hi) (λ x q hx.
      on_from (number_keeps x.1 hx) (λ r v hr.
      guard (id_ok i.0 && id_ok r.0) (λ t. read_so (p, (q, v)) hr))))
  flow_keeps (suc (suc (suc (suc n)))) ws h = none_read

  step_keeps : Keeps (λ s. AllSmall s.0 × FlowFits s.1) (read_step sub)
  unfolding read_step read_tagged
  step_keeps ws h =
      on_from (lets_keep ws h) (λ l p hl.
      on_from (on_from (number_keeps l.1 hl) (λ t q ht. flow_keeps t.0 t.1 ht)) (λ f q hf. read_so (p, q) hf))

  steps_keep : (n : ℕ) → Keeps Fits (read_steps sub n)
  unfolding Fits
  steps_keep zero ws h = read_so tt h
  steps_keep (suc n) ws h = on_from (step_keeps ws h) (λ s p hs. on_from (steps_keep n s.1 hs) (λ k q hk. read_so (p.0, (p.1, q)) hk))

  framed_keeps : Keeps Fits (read_framed sub)
  unfolding read_framed read_counted
  framed_keeps ws h =
      on_from (number_keeps ws h) (λ n p hn.
      on_from (guard (n.0 at_most length n.1) (λ t. on_from (number_keeps (take n.0 n.1) (take_small n.0 n.1 hn)) (λ c q hc. steps_keep c.0 c.1 hc))) (λ k v hk.
      guard (length k.1 is 0) (λ t. read_so v (drop_small n.0 n.1 hn))))

-- every tree that is read from words of 32 bits fits
block_keeps : (n : ℕ) → Keeps Fits (read_block n)
unfolding read_block
block_keeps zero ws h = none_read
block_keeps (suc n) ws h = framed_keeps (read_block n) (block_keeps n) ws h

pub read_fits : (n : ℕ) (ws : List ℕ) (k : Block) (r : List ℕ) → AllSmall ws → read_block n ws ≡ some (k, r) → Fits k
read_fits n ws k r h e = (subst (fine Fits) e (block_keeps n ws h).so).0

-- WHAT IS PROVED: two lists of 32-bit words that are read as trees with one listing are read as one tree
pub one_listing_one_tree : (n : ℕ) (v w : List ℕ) (k j : Block) (r s : List ℕ) → AllSmall v → AllSmall w → read_block n v ≡ some (k, r) → read_block n w ≡ some (j, s) → listing k ≡ listing j → k ≡ j
one_listing_one_tree n v w k j r s hv hw e f q = nothing_hidden k j (read_fits n v k r hv e) (read_fits n w j s hw f) q
