-- What is read of words is a tree whose nesting a path has room for; a lister that is told of it has written its text.
use mathlib.Core.Path.{◌≡◌, refl, sym, ap, subst, ◌∙◌}
use mathlib.Core.Bool.{Bool, true, false, ◌&&◌}
use mathlib.Core.List.{List, [], ◌∷◌, ◌++◌}
use mathlib.Core.Option.{Option, none, some}
use Prim.Native.Nat.{ℕ, zero, suc, ◌+◌, ◌*◌, ◌<◌, ◌≤◌}
use native.Mathlib.Omega.{arith}
use lib.ListN.{length, length-append, take}
use lib.Dec.{eqb, leb, ltb}
use borrow.Author.Tests.{lt-ltb}
use Rattle.std.specs.Borrow.{Bor}
use Rattle.std.specs.Prelude.{Some, None}
use Rattle.std.specs.Prelude as rust
use Rattle.definition.specs.Lists.{flat}
use Rattle.definition.specs.Book.{Pattern}
use Rattle.definition.specs.Tree.{Block, Flow, Arms, end, step, match, equal, return, no_arms, arm}
use Rattle.definition.specs.Read.{Reader, ◌>>=◌, guarded, number, id_ok, read_lets, read_pattern, read_arm, read_arms}
use Rattle.definition.specs.Read.{read_flow, read_tagged, read_step, read_steps, read_counted, read_framed, read_block}
use Rattle.definition.specs.Listing.{listing, let_line, match_line, arm_line, equal_line, return_line}
use Rattle.definition.specs.Listing.{steps_text, flow_text, arms_text}
use Rattle.room.proofs.Written.{writes_none, writes_then, writes_as, writes_all}
use Rattle.room.specs.Wrote.{Writes, after_all}
use Rattle.room.specs.declared.Writer.{Writer}
use Rattle.line.specs.Writes.{deeper}
use Rattle.reading.specs.Acts.{steps_after, flow_after, arms_after, block_after}
use Rattle.reading.specs.Ends.{Ends}
use Rattle.listing.specs.declared.Lister.{Lister}
use Rattle.listing.specs.Told.{acts, entered}

-- q is the lister s after it wrote t, at the same path
record Says (s : Lister) (t : List ℕ) (q : Lister) : Type 0 where
  pub wrote : Writes s.out.now t q.out.now
  pub path : q.path ≡ s.path
  pub same : q.out.ghost_name ≡ s.out.ghost_name

-- with room in the path for m numbers more, a lister that is told of these writes their text
abbrev Steps : ℕ → Block → Type 0
Steps m k = (s : Lister) (i : ℕ) → length s.path + m ≤ 18 → Says s (steps_text s.path i k) (steps_after acts i s k)

abbrev FlowSays : ℕ → Flow → Type 0
FlowSays m f = (s : Lister) → length s.path + m ≤ 18 → Says s (flow_text s.path s.step f) (flow_after acts s f)

abbrev ArmsSay : ℕ → Arms → Type 0
ArmsSay m as' =
    (x : ℕ) (s : Lister) (i : ℕ) → length s.path + m ≤ 18 → Says s (arms_text s.path i as') (arms_after acts x i s as')

-- one number deeper
deeper_is : (p : List ℕ) (i : ℕ) → length p < 18 → deeper p i ≡ p ++ (i ∷ [])
deeper_is p i h = rw (lt-ltb (length p) 18 h)

room_left : (p : List ℕ) (i m : ℕ) → length p + (m + 1) ≤ 18 → length (deeper p i) + m ≤ 18
room_left p i m h =
    let d : length p < 18 = omega (arith, h) in
    let e : length (deeper p i) ≡ length p + 1 = ap length (deeper_is p i d) ∙ length-append p (i ∷ []) in
    omega (arith, e, h)

-- STEPS, ARMS AND WHAT A STEP DOES, where nested blocks need room for m
module _ (m : ℕ) where
  end_says : Steps m end
  unfolding steps_text steps_after
  end_says s i h = record { wrote = writes_none s.out.now; path = refl; same = refl }

  step_says : (l : List ℕ) (f : Flow) (k : Block) → FlowSays m f → Steps m k → Steps m (step l f k)
  unfolding steps_text steps_after
  step_says l f k u v s i h =
      let t : Lister = acts.lets s i l in
      let q : Lister = flow_after acts t f in
      let a : Says t (flow_text s.path i f) q = u t h in
      let room : length q.path + m ≤ 18 = subst (λ p. length p + m ≤ 18) (sym a.path) h in
      let b : Says q (steps_text q.path (i + 1) k) (steps_after acts (i + 1) q k) = v q (i + 1) room in
      let w = writes_as b.wrote (ap (λ p. steps_text p (i + 1) k) a.path) in
      record {
        wrote = writes_then (writes_then (writes_all s.out.now (flat (let_line s.path) l)) a.wrote) w;
        path = b.path ∙ a.path;
        same = b.same ∙ a.same;
      }

  none_say : ArmsSay (m + 1) no_arms
  unfolding arms_text arms_after
  none_say x s i h = record { wrote = writes_none s.out.now; path = refl; same = refl }

  arm_says : (p : Pattern) (ps : List (Option ℕ)) (k : Block) (as' : Arms) → Steps m k → ArmsSay (m + 1) as'
      → ArmsSay (m + 1) (arm p ps k as')
  unfolding arms_text arms_after
  arm_says p ps k as' u v x s i h =
      let t : Lister = entered s (arm_line s.path i p ps) i in
      let q : Lister = record (steps_after acts 1 t k) { path = s.path } in
      let a : Says t (steps_text t.path 1 k) (steps_after acts 1 t k) = u t 1 (room_left s.path i m h) in
      let b : Says q (arms_text s.path (i + 1) as') (arms_after acts x (i + 1) q as') = v x q (i + 1) h in
      let w = writes_as a.wrote (ap (λ p. steps_text p 1 k) (deeper_is s.path i (omega (arith, h)))) in
      record {
        wrote = writes_then (writes_then (writes_all s.out.now (arm_line s.path i p ps)) w) b.wrote;
        path = b.path;
        same = b.same ∙ a.same;
      }

  match_says : (x : ℕ) (as' : Arms) → ArmsSay (m + 1) as' → FlowSays (m + 2) (match x as')
  unfolding flow_text flow_after
  match_says x as' u s h =
      let t : Lister = entered s (match_line s.path s.step x) s.step in
      let room = room_left s.path s.step (m + 1) (omega (arith, h)) in
      let a : Says t (arms_text t.path 1 as') (arms_after acts x 1 t as') = u x t 1 room in
      let w = writes_as a.wrote (ap (λ p. arms_text p 1 as') (deeper_is s.path s.step (omega (arith, h)))) in
      record { wrote = writes_then (writes_all s.out.now (match_line s.path s.step x)) w; path = refl; same = a.same }

  equal_says : (x y : ℕ) (k : Block) → Steps m k → FlowSays (m + 2) (equal x y k)
  unfolding flow_text flow_after
  equal_says x y k u s h =
      let t : Lister = entered s (equal_line s.path s.step x y) s.step in
      let room = room_left s.path s.step m (omega (arith, h)) in
      let a : Says t (steps_text t.path 1 k) (steps_after acts 1 t k) = u t 1 room in
      let w = writes_as a.wrote (ap (λ p. steps_text p 1 k) (deeper_is s.path s.step (omega (arith, h)))) in
      record { wrote = writes_then (writes_all s.out.now (equal_line s.path s.step x y)) w; path = refl; same = a.same }

  return_says : (i p r : ℕ) → FlowSays (m + 2) (return i p r)
  unfolding flow_text flow_after
  return_says i p r s h = record { wrote = writes_all s.out.now (return_line s.path s.step i p r); path = refl; same = refl }

-- READING. Nothing is read, or what is read is as P says
abbrev fine : {A : Type 0} → (A → Type 0) → Option (A × List ℕ) → Type 0
fine P none = Unit {0}
fine P (some x) = P x.0

record Fine {A : Type 0} (P : A → Type 0) (o : Option (A × List ℕ)) : Type 0 where
  pub so : fine P o

abbrev Keeps : {A : Type 0} → (A → Type 0) → Reader A → Type 0
Keeps P read = (ws : List ℕ) → Fine P (read ws)

module _ {A : Type 0} where
  any : (o : Option (A × List ℕ)) → Fine (λ _. Unit {0}) o
  any none = record { so = tt }
  any (some x) = record { so = tt }

  module _ {P : A → Type 0} where
    read_so : {a : A} {r : List ℕ} → P a → Fine P (some (a, r))
    read_so p = record { so = p }

    none_read : Fine P none
    none_read = record { so = tt }

    guard : (t : Bool) {o : Option (A × List ℕ)} → Fine P o → Fine P (guarded t o)
    guard true h = h
    guard false h = none_read

    on_read : {Q : A → Type 0} {o : Option (A × List ℕ)} → ((a : A) → P a → Q a) → Fine P o → Fine Q o
    on_read {o = none} k h = record { so = tt }
    on_read {o = some x} k h = record { so = k x.0 h.so }

    -- go on with what was read
    on_from : {B : Type 0} {Q : B → Type 0} {o : Option (A × List ℕ)} {f : A × List ℕ → Option (B × List ℕ)} → Fine P o
        → ((x : A × List ℕ) → P x.0 → Fine Q (f x)) → Fine Q (o >>= f)
    on_from {o = none} h k = record { so = tt }
    on_from {o = some x} h k = k x h.so

-- where nested blocks are read as they should be
module _ (m : ℕ) (sub : Reader Block) (keeps : Keeps (Steps m) sub) where
  arm_keeps : Keeps (λ a. Steps m a.1) (read_arm sub)
  unfolding read_arm
  arm_keeps ws = on_from (any (read_pattern ws)) (λ a _. on_from (keeps a.1) (λ k q. read_so q))

  arms_keep : (n : ℕ) → Keeps (ArmsSay (m + 1)) (read_arms sub n)
  arms_keep zero ws = read_so (none_say m)
  arms_keep (suc n) ws =
      on_from (arm_keeps ws) (λ a p.
      on_from (arms_keep n a.1) (λ r q. read_so (arm_says m a.0.0.0 a.0.0.1 a.0.1 r.0 p q)))

  flow_keeps : (t : ℕ) → Keeps (FlowSays (m + 2)) (read_flow sub t)
  unfolding read_flow
  flow_keeps zero ws =
      on_from (any (number ws)) (λ s _.
      on_from (any (number s.1)) (λ n _.
      on_from (guard (id_ok s.0) (arms_keep n.0 n.1)) (λ r v. read_so (match_says m s.0 r.0 v))))
  flow_keeps (suc zero) ws =
      on_from (any (number ws)) (λ x _.
      on_from (any (number x.1)) (λ y _.
      on_from (guard (ltb x.0 y.0 && id_ok y.0) (keeps y.1)) (λ k v. read_so (equal_says m x.0 y.0 k.0 v))))
  flow_keeps (suc (suc zero)) ws = none_read
  flow_keeps (suc (suc (suc zero))) ws =
      on_from (any (number ws)) (λ i _.
      on_from (any (number i.1)) (λ x _.
      on_from (any (number x.1)) (λ r _.
      guard (id_ok i.0 && id_ok r.0) (read_so (return_says m i.0 x.0 r.0)))))
  flow_keeps (suc (suc (suc (suc n)))) ws = none_read

  step_keeps : Keeps (λ s. FlowSays (m + 2) s.1) (read_step sub)
  unfolding read_step read_tagged
  step_keeps ws =
      on_from (any (read_lets ws)) (λ l _.
      on_from (on_from (any (number l.1)) (λ t _. flow_keeps t.0 t.1)) (λ f q. read_so q))

  steps_keep : (n : ℕ) → Keeps (Steps (m + 2)) (read_steps sub n)
  steps_keep zero ws = read_so (end_says (m + 2))
  steps_keep (suc n) ws =
      on_from (step_keeps ws) (λ s p.
      on_from (steps_keep n s.1) (λ k q. read_so (step_says (m + 2) s.0.0 s.0.1 k.0 p q)))

  framed_keeps : Keeps (Steps (m + 2)) (read_framed sub)
  unfolding read_framed read_counted
  framed_keeps ws =
      on_from (any (number ws)) (λ n _.
      on_from (guard (leb n.0 (length n.1)) (on_from (any (number (take n.0 n.1))) (λ c _. steps_keep c.0 c.1))) (λ k v.
      guard (eqb (length k.1) 0) (read_so v)))

-- a block in which at most n blocks stand one inside another
block_keeps : (n : ℕ) → Keeps (Steps (n * 2)) (read_block n)
unfolding read_block
block_keeps zero ws = none_read
block_keeps (suc n) ws = on_read (λ k v s i h. v s i (omega (arith, h))) (framed_keeps (n * 2) (read_block n) (block_keeps n) ws)

read_says : (ws : List ℕ) {k : Block} {r : List ℕ} → read_block 9 ws ≡ some (k, r) → (s : Lister) → s.path ≡ []
    → Says s (listing k) (block_after acts s k)
unfolding listing
read_says ws {k} e s p =
    let all : Steps 18 k = subst (fine (Steps 18)) e (block_keeps 9 ws).so in
    let room : length s.path + 18 ≤ 18 = subst (λ q. length q + 18 ≤ 18) (sym p) (omega arith) in
    subst (λ q. Says s (steps_text q 1 k) (block_after acts s k)) p (all s 1 room)

-- what a lister at the root was told: o is what it wrote to, if that is still known by its name
module _ (ws : List ℕ) (s p : Lister) (root : s.path ≡ []) where
  module _ (o : Writer ℕ) (known : s.out.ghost_name ≡ p.out.ghost_name → o ≡ p.out.now) where
    pub told : (r : rust.Option (Bor (List ℕ))) → Ends (block_after acts s) (read_block 9 ws) r p
        → Ends (λ k. after_all s.out.now (listing k)) (read_block 9 ws) r o
    told None g = record { is = g.is }
    told (Some rest) g =
        let k = g.is.0 in
        let a = read_says ws g.is.1 s root in
        let n : p.out.ghost_name ≡ s.out.ghost_name = ap (λ (q : Lister). q.out.ghost_name) g.is.2 ∙ a.same in
        record { is = (k, g.is.1, known (sym n) ∙ ap (λ (q : Lister). q.out.now) g.is.2 ∙ a.wrote.exact) }
