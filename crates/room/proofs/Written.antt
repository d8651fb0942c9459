-- Words written one after another, a word filled in later, words written by a loop, and what a whole room then is.
use mathlib.Core.Path.{◌≡◌, refl, sym, ◌∙◌, ap, subst}
use mathlib.Core.List.{List, [], ◌∷◌, ◌++◌, map, append_assoc, append-nil}
use Prim.Native.Nat.{ℕ, suc, ◌+◌, ◌-◌, ◌≤◌, ◌<◌, min}
use native.Mathlib.Numerals.{add-one}
use native.Mathlib.Omega.{arith}
use native.Mathlib.Decide.{dec_lt}
use lib.ListN.{length, get_or, set, take, drop, length-append, length-set}
use lib.Seq.{sets, set-set, set_comm, set_out, take-suc, take_all}
use Rattle.definition.specs.Lists.{from, upto, flat}
use Rattle.laws.specs.Runs.{in_slots}
use Rattle.laws.specs.Stores.{sets_append, set_sets, sets_front}
use Rattle.laws.specs.Turns.{flat_append}
use Rattle.room.specs.Wrote.{Wrote, Inside, after_one, after_all, patched, Puts, Patches, Writes}
use Rattle.room.specs.declared.Writer.{Writer}

pub wrote_none : (l : List ℕ) (at : ℕ) → at ≤ length l + 1 → Wrote l at [] at l
wrote_none l at h = record { next = omega arith; room = λ k. refl; size = refl }

pub wrote_one : {l : List ℕ} {at w r : ℕ} {m : List ℕ} → r ≡ min (at + 1) (length l + 1) → m ≡ set l at w → Wrote l at (w ∷ []) r m
wrote_one {l} {at} {w} n e = record { next = n; room = λ k. e; size = ap length e ∙ length-set l at w }

pub wrote_fits : {l : List ℕ} {at : ℕ} {w : List ℕ} {r : ℕ} {m : List ℕ} → Wrote l at w r m → r ≤ length m + 1
wrote_fits h = omega (arith, h.next, h.size)

-- words behind words
pub wrote_then : {l : List ℕ} {at : ℕ} {u : List ℕ} {p : ℕ} {m v : List ℕ} {q : ℕ} {k : List ℕ} → Wrote l at u p m → Wrote m p v q k → Wrote l at (u ++ v) q k
wrote_then {l} {at} {u} {p} {m} {v} {q} {k} a b = record {
  next = simp length-append (omega (arith, a.next, b.next, a.size));
  room = λ h. room (simp length-append at h);
  size = b.size ∙ a.size;
}
  where
    room : at + (length u + length v) ≤ length l → k ≡ sets l at (u ++ v)
    room h =
        let e : p ≡ at + length u = omega (arith, a.next) in
        let f : m ≡ sets l at u = a.room (omega arith) in
        let g : k ≡ sets m p v = b.room (omega (arith, a.size)) in
        rw (g, f, e, sets_append)

-- a word filled in later: y where x was put first
pub wrote_patch : {l : List ℕ} {at x : ℕ} {w : List ℕ} {r : ℕ} {m : List ℕ} → Wrote l at (x ∷ w) r m → {y : ℕ} {k : List ℕ} → k ≡ set m at y → Wrote l at (y ∷ w) r k
wrote_patch {l} {at} {x} {w} {r} {m} h {y} p = record {
  next = h.next;
  room = λ f.
      p
      ∙ ap (λ (z : List ℕ). set z at y) (h.room f)
      ∙ set_sets (set l at x) at (suc at) y w (omega arith)
      ∙ ap (λ (z : List ℕ). sets z (suc at) w) (set-set l at x y);
  size = ap length p ∙ length-set m at y ∙ h.size;
}

-- WRITERS
after_both : (o : Writer ℕ) (u v : List ℕ) → after_all o (u ++ v) ≡ after_all (after_all o u) v
after_both o [] v = refl
after_both o (x ∷ u) v = after_both (after_one o x) u v

pub writes_none : (o : Writer ℕ) → Writes o [] o
writes_none o = record { exact = refl; is = λ h. wrote_none o.room.now o.at h; same = refl }

pub writes_one : {o : Writer ℕ} {x : ℕ} {p : Writer ℕ} → Puts o x p → Writes o (x ∷ []) p
writes_one h = record { exact = h.exact; is = λ k. wrote_one h.next h.room; same = h.same }

module _ {o : Writer ℕ} {u : List ℕ} {p : Writer ℕ} (a : Writes o u p) where
  pub writes_inside : Inside o → Inside p
  writes_inside h = wrote_fits (a.is h)

  pub writes_then : {v : List ℕ} {q : Writer ℕ} → Writes p v q → Writes o (u ++ v) q
  writes_then {v} b = record { exact = b.exact ∙ ap (λ r. after_all r v) a.exact ∙ sym (after_both o u v); is = λ h. wrote_then (a.is h) (b.is (writes_inside h)); same = b.same ∙ a.same }

  pub writes_as : {v : List ℕ} → u ≡ v → Writes o v p
  writes_as e = subst (λ t. Writes o t p) e a

  pub writes_put : {x : ℕ} {q : Writer ℕ} → Puts p x q → Writes o (u ++ (x ∷ [])) q
  writes_put b = writes_then (writes_one b)

-- a writer after the items w
pub writes_all : (o : Writer ℕ) (w : List ℕ) → Writes o w (after_all o w)
writes_all o [] = writes_none o
writes_all o (x ∷ w) = writes_then (writes_one (record { exact = refl; next = refl; room = refl; same = refl })) (writes_all (after_one o x) w)

-- an item filled in later: what was written behind it may come after
after_length : (o : Writer ℕ) (w : List ℕ) → length (after_all o w).room.now ≡ length o.room.now
after_length o [] = refl
after_length o (x ∷ w) = after_length (after_one o x) w ∙ length-set o.room.now o.at x

patch_one : (o : Writer ℕ) (k y x : ℕ) → k < o.at → after_one (patched o k y) x ≡ patched (after_one o x) k y
patch_one o k y x h =
    let r : set (set o.room.now k y) o.at x ≡ set (set o.room.now o.at x) k y = set_comm o.room.now k o.at y x (λ e. omega arith) in
    rw (r, length-set o.room.now k y)

patch_all : (o : Writer ℕ) (k y : ℕ) (w : List ℕ) → k < o.at → k ≤ length o.room.now → after_all (patched o k y) w ≡ patched (after_all o w) k y
patch_all o k y [] h g = refl
patch_all o k y (x ∷ w) h g = ap (λ p. after_all p w) (patch_one o k y x h) ∙ patch_all (after_one o x) k y w (omega (arith, h, g)) (rw (length-set o.room.now o.at x) g)

patch_again : (o : Writer ℕ) (x y : ℕ) → patched (after_one o x) o.at y ≡ after_one o y
patch_again o x y = rw (set-set o.room.now o.at x y)

patch_out : (o : Writer ℕ) (k y : ℕ) → length o.room.now ≤ k → patched o k y ≡ o
patch_out o k y h = rw (set_out o.room.now k y h)

one_out : (o : Writer ℕ) (x y : ℕ) → length o.room.now ≤ o.at → after_one o x ≡ after_one o y
one_out o x y h = rw (set_out o.room.now o.at x h, set_out o.room.now o.at y h)

patch_exact : (o : Writer ℕ) (x y : ℕ) (w : List ℕ) → patched (after_all o (x ∷ w)) o.at y ≡ after_all o (y ∷ w)
patch_exact o x y w = elim (dec_lt o.at (length o.room.now)) [
  | yes p ↦ sym (patch_all (after_one o x) o.at y w (omega (arith, p)) (rw (length-set o.room.now o.at x) (omega (arith, p)))) ∙ ap (λ p. after_all p w) (patch_again o x y)
  | no p ↦
      let far : length o.room.now ≤ o.at = omega (arith, p) in
      patch_out (after_all o (x ∷ w)) o.at y (rw (after_length o (x ∷ w)) far) ∙ ap (λ p. after_all p w) (one_out o x y far)
]

-- y where x was put first
pub writes_patch : {o : Writer ℕ} {x : ℕ} {w : List ℕ} {p : Writer ℕ} → Writes o (x ∷ w) p → {y : ℕ} {q : Writer ℕ} → Patches p o.at y q → Writes o (y ∷ w) q
writes_patch {o} {x} {w} {p} a {y} {q} b = record {
  exact = b.exact ∙ ap (λ r. patched r o.at y) a.exact ∙ patch_exact o x y w;
  is = λ h. subst (λ r. Wrote o.room.now o.at (y ∷ w) r q.room.now) (sym b.next) (wrote_patch (a.is h) b.room);
  same = b.same ∙ a.same;
}

-- LOOPS. f of each element of s is written; those before k are
pub record Each (f : ℕ → List ℕ) (s : List ℕ) (k : ℕ) (o p : Writer ℕ) : Type 0 where
  pub wrote : Writes o (flat f (take k s)) p

module _ {f : ℕ → List ℕ} {s : List ℕ} {k : ℕ} {o p : Writer ℕ} (e : Each f s k o p) where
  pub each_turn : k < length s → {q : Writer ℕ} → Writes p (f (get_or s k 0)) q → Each f s (k + 1) o q
  each_turn h w = record { wrote = writes_as (writes_then e.wrote w) (sym more) }
    where
      more : flat f (take (k + 1) s) ≡ flat f (take k s) ++ f (get_or s k 0)
      more = ap (λ j. flat f (take j s)) (add-one k) ∙ ap (flat f) (take-suc s k 0 h) ∙ flat_append f (take k s) (get_or s k 0 ∷ []) ∙ ap (λ t. flat f (take k s) ++ t) (append-nil (f (get_or s k 0)))

  pub each_whole : length s ≤ k → Writes o (flat f s) p
  each_whole h = writes_as e.wrote (ap (flat f) (take_all k s h))

-- items one by one are the items
flat_items : (s : List ℕ) → flat (λ b. b ∷ []) s ≡ s
flat_items [] = refl
flat_items (b ∷ s) = ap (λ t. b ∷ t) (flat_items s)

pub items_end : {s : List ℕ} {k : ℕ} {o p : Writer ℕ} → Each (λ b. b ∷ []) s k o p → length s ≤ k → Writes o s p
items_end {s} e h = writes_as (each_whole e h) (flat_items s)

-- f 0, f 1, .. : n items, written one by one by a loop; those before k are written
pub record Writing (f : ℕ → ℕ) (n k : ℕ) (o p : Writer ℕ) : Type 0 where
  pub done : List ℕ
  pub whole : map f (upto n) ≡ done ++ map f (from k (n - k))
  pub wrote : Writes o done p

module _ {f : ℕ → ℕ} {n k : ℕ} {o p : Writer ℕ} (i : Writing f n k o p) where
  pub writing_turn : k < n → {x : ℕ} {q : Writer ℕ} → x ≡ f k → Puts p x q → Writing f n (k + 1) o q
  writing_turn h {x} e b = record {
    done = i.done ++ (x ∷ []);
    whole = i.whole ∙ ap (λ (y : List ℕ). i.done ++ y) ((in_slots f n).more k h) ∙ rw (e, append_assoc);
    wrote = writes_put i.wrote b;
  }

  pub writing_ends : n ≤ k → Writes o (map f (upto n)) p
  writing_ends h = rw (i.whole, (in_slots f n).none k h, append-nil) i.wrote

-- a whole room, written from its front on: the words with the rest of the room behind them, or too little room
module _ {l w : List ℕ} {r : ℕ} {m : List ℕ} (h : Wrote l 0 w r m) where
  pub whole_fits : length w ≤ length l → (r ≡ length w) × (m ≡ w ++ drop (length w) l)
  whole_fits k = (omega (arith, h.next), h.room (omega arith) ∙ sets_front l w k)
