-- A walker that was told of a tree's parts: it knows whether its reading has the sites, and where the walk stops.
use mathlib.Core.Path.{◌≡◌, refl, sym, ap, ap₂, ◌∙◌}
use mathlib.Core.Bool.{Bool, true, false, ◌&&◌, not}
use mathlib.Core.List.{List, [], ◌∷◌, ◌++◌}
use mathlib.Core.Option.{Option, none, some}
use Prim.Native.Nat.{ℕ, ◌+◌}
use lib.ListN.{length}
use Rattle.std.specs.Prelude as rust
use Rattle.std.specs.Prelude.{if◌then◌else◌}
use Rattle.definition.specs.Lists.{all, ◌below◌}
use Rattle.definition.specs.Tree.{Block, Flow, Arms, end, step, match, equal, return, no_arms, arm}
use Rattle.definition.specs.Walk.{Hit, first_hit, hits, flow_hits, arm_hits, walk, holds, agree, placed_in, sites_in, flow_sites, arm_sites}
use Rattle.laws.specs.Answers.{and-true, and_assoc}
use Rattle.laws.specs.Turns.{all_append}
use Rattle.laws.specs.Firsts.{or_else, first_hit_append}
use Rattle.reading.specs.Acts.{steps_after, flow_after, arms_after}
use Rattle.walk.specs.declared.Found.{Found}
use Rattle.walk.specs.declared.Walker.{Walker}
use Rattle.walk.specs.Walks.{acts, known, first_found}

-- where the walk stops if it goes on to h
abbrev pub later : rust.Option Found → Option Hit → rust.Option Found
later rust.None none = rust.None
later rust.None (some h) = rust.Some (record { rule = h.rule; result = h.result })
later (rust.Some f) o = rust.Some f

later_none : (o : rust.Option Found) → later o none ≡ o
later_none rust.None = refl
later_none (rust.Some f) = refl

later_later : (o : rust.Option Found) (h g : Option Hit) → later (later o h) g ≡ later o (or_else h g)
later_later rust.None none g = refl
later_later rust.None (some h) g = refl
later_later (rust.Some f) h g = refl

-- l was named and h met
abbrev pub told : Walker → List ℕ → Option Hit → Walker
told s l h = record s { known = known s l; stop = if s.here then later s.stop h else s.stop }

known_append : (s : Walker) (l m : List ℕ) → known s l && all (λ x. x below (length s.reading.kinds)) m ≡ known s (l ++ m)
known_append s l m =
    let p : ℕ → Bool = λ x. x below (length s.reading.kinds) in
    sym (and_assoc s.known (all p l) (all p m)) ∙ ap (λ (t : Bool). s.known && t) (sym (all_append p l m))

stop_none : (b : Bool) (o : rust.Option Found) → o ≡ (if b then later o none else o)
stop_none true o = sym (later_none o)
stop_none false o = refl

stop_stop : (b : Bool) (o : rust.Option Found) (h g : Option Hit) → (if b then later (if b then later o h else o) g else (if b then later o h else o)) ≡ (if b then later o (or_else h g) else o)
stop_stop true o h g = later_later o h g
stop_stop false o h g = refl

-- nothing was met
told_lets : (s : Walker) (l : List ℕ) → record s { known = known s l } ≡ told s l none
told_lets s l = ap (λ o. record s { known = known s l; stop = o }) (stop_none s.here s.stop)

told_nothing : (s : Walker) → s ≡ told s [] none
told_nothing s = ap (λ (b : Bool). record s { known = b }) (sym (and-true s.known)) ∙ told_lets s []

told_told : (s : Walker) (l m : List ℕ) (h g : Option Hit) → told (told s l h) m g ≡ told s (l ++ m) (or_else h g)
told_told s l m h g = ap₂ (λ (b : Bool) o. record s { known = b; stop = o }) (known_append s l m) (stop_stop s.here s.stop h g)

-- an Equal, and the arms behind an arm
equal_stop : (b g : Bool) (o : rust.Option Found) (hs : List Hit) → (if b && g then later o (first_hit hs) else o) ≡ (if b then later o (first_hit (if g then hs else [])) else o)
equal_stop true true o hs = refl
equal_stop true false o hs = sym (later_none o)
equal_stop false g o hs = refl

arms_stop : (b g : Bool) (o : rust.Option Found) (hs gs : List Hit)
    → (if b && not g then later (if b && g then later o (first_hit hs) else o) (first_hit gs) else (if b && g then later o (first_hit hs) else o)) ≡ (if b then later o (first_hit (if g then hs else gs)) else o)
arms_stop true true o hs gs = refl
arms_stop true false o hs gs = refl
arms_stop false g o hs gs = refl

return_stop : (b : Bool) (o : rust.Option Found) (i r : ℕ) → (if b then first_found o (record { rule = i; result = r }) else o) ≡ (if b then later o (some (record { rule = i; result = r })) else o)
return_stop true rust.None i r = refl
return_stop true (rust.Some f) i r = refl
return_stop false o i r = refl

mutual
  unfolding steps_after flow_after arms_after sites_in flow_sites arm_sites walk hits flow_hits arm_hits

  pub steps_told : (i : ℕ) (s : Walker) (k : Block) → steps_after acts i s k ≡ told s (sites_in k) (walk s.reading k)
  steps_told i s end = told_nothing s
  steps_told i s (step l f k) =
      let d = s.reading in
      let h = first_hit (flow_hits d f) in
      ap (λ q. steps_after acts (i + 1) (flow_after acts q f) k) (told_lets s l)
      ∙ ap (λ q. steps_after acts (i + 1) q k) (flow_told i (told s l none) f ∙ told_told s l (flow_sites f) none h)
      ∙ steps_told (i + 1) (told s (l ++ flow_sites f) h) k
      ∙ told_told s (l ++ flow_sites f) (sites_in k) h (walk d k)
      ∙ ap (told s (l ++ flow_sites f ++ sites_in k)) (sym (first_hit_append (flow_hits d f) (hits d k)))

  pub flow_told : (i : ℕ) (s : Walker) (f : Flow) → flow_after acts s f ≡ told s (flow_sites f) (first_hit (flow_hits s.reading f))
  flow_told i s (match x as') =
      arms_told x 1 (record s { known = known s (x ∷ []) }) as' s.here
      ∙ ap (λ (b : Bool). record s { known = b; stop = if s.here then later s.stop (first_hit (arm_hits s.reading x as')) else s.stop }) (known_append s (x ∷ []) (arm_sites as'))
  flow_told i s (equal a b k) =
      let g = agree s.reading a b in
      ap (λ (q : Walker). record q { here = s.here }) (steps_told 1 (record s { known = known s (a ∷ b ∷ []); here = s.here && g }) k)
      ∙ ap₂ (λ (t : Bool) o. record s { known = t; stop = o }) (known_append s (a ∷ b ∷ []) (sites_in k)) (equal_stop s.here g s.stop (hits s.reading k))
  flow_told i s (return j p r) = ap (λ o. record s { known = known s (r ∷ []); stop = o }) (return_stop s.here s.stop j r)

  -- whatever is then left
  arms_told : (x i : ℕ) (s : Walker) (as' : Arms) (m : Bool) → record (arms_after acts x i s as') { here = m } ≡ record (told s (arm_sites as') (first_hit (arm_hits s.reading x as'))) { here = m }
  arms_told x i s no_arms m = ap (λ (q : Walker). record q { here = m }) (told_nothing s)
  arms_told x i s (arm p ps k as') m =
      let d = s.reading in
      let g = holds d x p in
      let s₁ : Walker = record s { known = known s (placed_in ps); here = s.here && g } in
      let s₂ : Walker = record (told s₁ (sites_in k) (walk d k)) { here = s.here && not g } in
      ap (λ (q : Walker). record (arms_after acts x (i + 1) (record q { here = s.here && not g }) as') { here = m }) (steps_told 1 s₁ k)
      ∙ arms_told x (i + 1) s₂ as' m
      ∙ ap₂ (λ (t : Bool) o. record s { known = t; stop = o; here = m })
      (ap (λ (t : Bool). t && all (λ y. y below (length d.kinds)) (arm_sites as')) (known_append s (placed_in ps) (sites_in k)) ∙ known_append s (placed_in ps ++ sites_in k) (arm_sites as'))
      (arms_stop s.here g s.stop (hits d k) (arm_hits d x as'))
