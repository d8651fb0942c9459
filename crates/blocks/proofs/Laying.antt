-- Words where they fit: one after another, and with a front that is filled in last, as a block's two words and a Match's
-- arm count are.
use mathlib.Core.Path.{◌≡◌, refl, sym, ◌∙◌, ap, subst}
use mathlib.Core.List.{List, [], ◌∷◌, ◌++◌}
use Prim.Native.Nat.{ℕ, suc, ◌+◌, ◌-◌, ◌≤◌, ◌<◌}
use native.Mathlib.Omega.{arith}
use lib.ListN.{length}
use lib.Seq.{sets}
use Rattle.definition.specs.Tree.{block_words}
use Rattle.room.specs.declared.Writer.{Writer}
use Rattle.room.specs.Wrote.{Wrote, Inside, Puts, Patches, Writes}
use Rattle.room.proofs.Written.{wrote_none, wrote_then, wrote_patch, wrote_fits, writes_one}
use Rattle.blocks.specs.Work.{Lays, Roomy}

pub lays : {o : Writer ℕ} {w : List ℕ} {p : Writer ℕ} → Writes o w p → Lays o w p
lays h = record { is = h.is; same = h.same }

pub lays_one : {o : Writer ℕ} {x : ℕ} {p : Writer ℕ} → Puts o x p → Lays o (x ∷ []) p
lays_one h = lays (writes_one h)

pub lays_none : (o : Writer ℕ) → Lays o [] o
lays_none o = record { is = λ h. wrote_none o.room.now o.at h; same = refl }

module _ {o : Writer ℕ} {u : List ℕ} {p : Writer ℕ} (a : Lays o u p) where
  pub lays_then : {v : List ℕ} {q : Writer ℕ} → Lays p v q → Lays o (u ++ v) q
  lays_then b = record { is = λ h. wrote_then (a.is h) (b.is (wrote_fits (a.is h))); same = b.same ∙ a.same }

  pub roomy_after : Roomy o → Roomy p
  roomy_after r = let w = a.is r.inside in record { short = omega (arith, w.size, r.short); inside = wrote_fits w }

-- one word left open in front of others
pub lays_front : {o q : Writer ℕ} {x : ℕ} {w : List ℕ} {p r : Writer ℕ} {n : ℕ}
    → Puts o x q → Lays q w p → Patches p o.at n r → Lays o (n ∷ w) r
lays_front {o} {w = w} {r = r} {n} a l b = record {
  is = λ h.
      let open_word = lays_then (lays_one a) l in
      subst (λ at. Wrote o.room.now o.at (n ∷ w) at r.room.now) (sym b.next) (wrote_patch (open_word.is h) b.room);
  same = b.same ∙ l.same ∙ a.same;
}

-- the first word is right where the words fit
lays_if : {o : Writer ℕ} {y x : ℕ} {w : List ℕ} {p : Writer ℕ} → Lays o (y ∷ w) p
    → (Inside o → o.at + suc (length w) ≤ length o.room.now → y ≡ x) → Lays o (x ∷ w) p
lays_if {o} {w = w} a e = record {
  is = λ h.
      let v = a.is h in
      record { next = v.next; room = λ f. v.room f ∙ ap (λ z. sets o.room.now o.at (z ∷ w)) (e h f); size = v.size };
  same = a.same;
}

-- a block: both words open, then the step count and the words after the first
pub lays_block : {o o₁ o₂ p p₁ p₂ : Writer ℕ} {w : List ℕ} {n y : ℕ}
    → Puts o 0 o₁ → Puts o₁ 0 o₂ → Lays o₂ w p → Patches p o₁.at n p₁ → (o.at < p₁.at → y ≡ p₁.at - o.at - 1) → Patches p₁ o.at y p₂ → Lays o (block_words n w) p₂
unfolding block_words
lays_block {w = w} a₁ a₂ l f₁ e f₂ =
    let open_words = lays_then (lays_one a₁) (lays_then (lays_one a₂) l) in
    lays_if (lays_front a₁ (lays_front a₂ l f₁) f₂) (λ h g.
    let v = open_words.is h in
    e (omega (arith, v.next, f₁.next)) ∙ omega (arith, v.next, f₁.next))
