-- A merge in a store of sets joins two classes as the definition's labels do.
use mathlib.Core.Path.{◌≡◌, refl, sym, ◌∙◌, ap, ap₂}
use mathlib.Core.Logic.{◌⊎◌, inl, inr}
use mathlib.Core.Bool.{Bool, true, false, ◌&&◌, ◌||◌, and-true, and-false, or-false, or_comm}
use mathlib.Core.List.{List, ◌∷◌}
use Prim.Native.Nat.{ℕ, zero, suc, ◌+◌}
use native.Mathlib.Omega.{arith}
use lib.ListN.{get_or}
use borrow.Author.Tests.{eq-eqb, ne_eqb, eqb-true, eqb-false}
use Rattle.definition.specs.Lists.{◌is◌, ◌below◌}
use Rattle.std.specs.Prelude.{if◌then◌else◌}
use Rattle.definition.specs.Book.{Pair, label, linked}
use Rattle.definition.specs.Sets.{Class, unmerged, in_set, Sets, same_class, in_same_set, entered, enter, moved, move, join_classes, join, merge}
use Rattle.laws.specs.Tests.{split, is_sym}
use Rattle.laws.specs.Loops.{relabel}
use Rattle.sets.specs.View.{class_of, read, Made}
use Rattle.scope.specs.Classes.{label_in}

-- LABELS RENAMED
-- two labels are one after p is renamed q: they were, or one was p and the other q
one_label : (p q m n : ℕ) → relabel p q m is relabel p q n ≡ m is n || ((m is p && n is q) || (m is q && n is p))
one_label p q m n = go (split (m is p)) (split (n is p))
  where
    go : (m is p ≡ true) ⊎ (m is p ≡ false) → (n is p ≡ true) ⊎ (n is p ≡ false)
        → relabel p q m is relabel p q n ≡ m is n || ((m is p && n is q) || (m is q && n is p))
    go (inl e) (inl f) = rw (e, f, eq-eqb q q refl, eq-eqb m n (eqb-true m p e ∙ sym (eqb-true n p f)))
    go (inl e) (inr f) = rw (e, f, and-false (m is q), or-false (n is q), ne_eqb m n (λ g. eqb-false n p f (sym g ∙ eqb-true m p e))) (is_sym q n)
    go (inr e) (inl f) = rw (e, f, and-true (m is q), ne_eqb m n (λ g. eqb-false m p e (g ∙ eqb-true n p f)))
    go (inr e) (inr f) = rw (e, f, and-false (m is q)) (sym (or-false (m is n)))

renamed_same : (p w : ℕ) → relabel p p w ≡ w
renamed_same p w = go (split (w is p))
  where
    go : (w is p ≡ true) ⊎ (w is p ≡ false) → relabel p p w ≡ w
    go (inl e) = rw e (sym (eqb-true w p e))
    go (inr e) = rw e

-- STORES in which a representative represents itself
abbrev pub Rooted : Sets → Type 0
Rooted s = (z r k : ℕ) → s z ≡ in_set r k → (j : ℕ) × (s r ≡ in_set r j)

abbrev Is : Class → Type 0
Is c = (r : ℕ) × (k : ℕ) × (c ≡ in_set r k)

pub made_rooted : (root rank : List ℕ) → Made root rank → Rooted (read root rank)
made_rooted root rank m z r k e = go (get_or root z 0) refl e
  where
    go : (n : ℕ) → get_or root z 0 ≡ n → class_of rank n ≡ in_set r k → (j : ℕ) × (read root rank r ≡ in_set r j)
    go zero p f = let q : ◌≡◌ {A = ℕ} 0 1 = cc in absurd (omega arith)
    go (suc t) p f = let q : t ≡ r = cc in (get_or rank r 0, rw (m.roots z r (p ∙ ap suc q)))

-- to enter changes no label
entered_label : (x z : ℕ) (c : Class) → z ≡ x → label_in (entered x c) z ≡ label_in c z
entered_label x z unmerged e = sym e
entered_label x z (in_set r k) e = refl

enter_label : (s : Sets) (x z : ℕ) → label_in (enter s x z) z ≡ label_in (s z) z
enter_label s x z = go (split (z is x))
  where
    go : (z is x ≡ true) ⊎ (z is x ≡ false) → label_in (enter s x z) z ≡ label_in (s z) z
    go (inl e) = rw e (entered_label x z (s z) (eqb-true z x e))
    go (inr e) = rw e

enter_keeps : (s : Sets) (x r j : ℕ) → s r ≡ in_set r j → enter s x r ≡ in_set r j
enter_keeps s x r j e = go (r is x)
  where
    go : (t : Bool) → (if t then entered x (s r) else s r) ≡ in_set r j
    go true = rw e
    go false = e

entered_is : (x : ℕ) (c : Class) → Is (entered x c)
entered_is x unmerged = (x, 0, refl)
entered_is x (in_set r k) = (r, k, refl)

enter_is : (s : Sets) (x : ℕ) → Is (enter s x x)
enter_is s x = rw (eq-eqb x x refl) (entered_is x (s x))

enter_still : (s : Sets) (x z : ℕ) → Is (s z) → Is (enter s x z)
enter_still s x z h = go (z is x)
  where
    go : (t : Bool) → Is (if t then entered x (s z) else s z)
    go true = entered_is x (s z)
    go false = h

enter_rooted : (s : Sets) (x : ℕ) → Rooted s → Rooted (enter s x)
enter_rooted s x h z r k e = go (split (z is x)) (s z) refl
  where
    old : s z ≡ in_set r k → (j : ℕ) × (enter s x r ≡ in_set r j)
    old f = let i = h z r k f in (i.0, enter_keeps s x r i.0 i.1)

    go : (z is x ≡ true) ⊎ (z is x ≡ false) → (c : Class) → s z ≡ c → (j : ℕ) × (enter s x r ≡ in_set r j)
    go (inr f) c g = old (rw f at e)
    go (inl f) (in_set a j) g = let q : entered x (s z) ≡ in_set r k = rw f at e in old (g ∙ rw g at q)
    go (inl f) unmerged g =
        let q : entered x (s z) ≡ in_set r k = rw f at e in
        let p : in_set x 0 ≡ in_set r k = rw g at q in
        let y : x ≡ r = cc in
        let w : z ≡ x = eqb-true z x f in
        (0, rw (← y, eq-eqb x x refl, ← w, g))

-- a move renames the labels
moved_label : (p q k z : ℕ) (c : Class) → (c ≡ unmerged → z ≡ p → ⊥) → label_in (moved p q k c) z ≡ relabel p q (label_in c z)
moved_label p q k z unmerged h = rw (ne_eqb z p (h refl))
moved_label p q k z (in_set r j) h = go (split (r is p)) (split (r is q))
  where
    go : (r is p ≡ true) ⊎ (r is p ≡ false) → (r is q ≡ true) ⊎ (r is q ≡ false) → label_in (moved p q k (in_set r j)) z ≡ relabel p q r
    go (inl e) f = rw e
    go (inr e) (inl f) = rw (e, f) (sym (eqb-true r q f))
    go (inr e) (inr f) = rw (e, f)

-- labels l: those of u and v are one, or they are x and y
abbrev one_by : (ℕ → ℕ) → ℕ → ℕ → ℕ → ℕ → Bool
one_by l x y u v = l u is l v || ((l u is y && l v is x) || (l u is x && l v is y))

module _ (t : Sets) (h : Rooted t) (x y a j b k : ℕ) (ex : t x ≡ in_set a j) (ey : t y ≡ in_set b k) where
  abbrev tag : ℕ → ℕ
  tag z = label_in (t z) z

  not_root : (w r i z : ℕ) → t w ≡ in_set r i → t z ≡ unmerged → z ≡ r → ⊥
  not_root w r i z e f g =
      let q = h w r i e in
      let p : t z ≡ in_set r q.0 = rw g q.1 in
      let o : ◌≡◌ {A = ℕ} 0 1 = cc in
      omega arith

  move_label : (w p i q m z : ℕ) → t w ≡ in_set p i → label_in (move p q m t z) z ≡ relabel p q (tag z)
  move_label w p i q m z e = moved_label p q m z (t z) (λ f g. not_root w p i z e f g)

  into_second : (m u v : ℕ) → label_in (move a b m t u) u is label_in (move a b m t v) v ≡ one_by tag a b u v
  into_second m u v =
      rw (move_label x a j b m u ex, move_label x a j b m v ex)
      (one_label a b (tag u) (tag v) ∙ ap (λ (o : Bool). tag u is tag v || o) (or_comm (tag u is a && tag v is b) (tag u is b && tag v is a)))

  into_first : (m u v : ℕ) → label_in (move b a m t u) u is label_in (move b a m t v) v ≡ one_by tag a b u v
  into_first m u v = rw (move_label y b k a m u ey, move_label y b k a m v ey) (one_label b a (tag u) (tag v))

  within_one : a ≡ b → (u v : ℕ) → tag u is tag v ≡ one_by tag a b u v
  within_one e u v =
      ap₂ (λ (m n : ℕ). m is n) (sym (renamed_same b (tag u))) (sym (renamed_same b (tag v)))
      ∙ one_label b b (tag u) (tag v)
      ∙ ap (λ (o : ℕ). one_by tag o b u v) (sym e)

  join_label : (u v : ℕ) → label_in (join_classes (in_set a j) (in_set b k) t u) u is label_in (join_classes (in_set a j) (in_set b k) t v) v ≡ one_by tag a b u v
  join_label u v = go (split (a is b)) (split (j below k)) (split (k below j))
    where
      go : (a is b ≡ true) ⊎ (a is b ≡ false) → (j below k ≡ true) ⊎ (j below k ≡ false) → (k below j ≡ true) ⊎ (k below j ≡ false)
          → label_in (join_classes (in_set a j) (in_set b k) t u) u is label_in (join_classes (in_set a j) (in_set b k) t v) v ≡ one_by tag a b u v
      go (inl e) f g = rw e (within_one (eqb-true a b e) u v)
      go (inr e) (inl f) g = rw (e, f) (into_second k u v)
      go (inr e) (inr f) (inl g) = rw (e, f, g) (into_first j u v)
      go (inr e) (inr f) (inr g) = rw (e, f, g) (into_first (j + 1) u v)

merge_label : (s : Sets) → Rooted s → (x y u v : ℕ) → label_in (merge x y s u) u is label_in (merge x y s v) v
    ≡ one_by (λ (z : ℕ). label_in (s z) z) (label_in (s x) x) (label_in (s y) y) u v
merge_label s h x y u v =
    go (enter (enter s x) y) (enter_rooted (enter s x) y (enter_rooted s x h)) (enter_still (enter s x) y x (enter_is s x)) (enter_is (enter s x) y)
    (λ z. enter_label (enter s x) y z ∙ enter_label s x z)
  where
    go : (t : Sets) → Rooted t → Is (t x) → Is (t y) → ((z : ℕ) → label_in (t z) z ≡ label_in (s z) z)
        → label_in (join x y t u) u is label_in (join x y t v) v ≡ one_by (λ (z : ℕ). label_in (s z) z) (label_in (s x) x) (label_in (s y) y) u v
    go t r (a, j, ex) (b, k, ey) e =
        let p : a ≡ label_in (s x) x = sym (ap (λ (c : Class). label_in c x) ex) ∙ e x in
        let q : b ≡ label_in (s y) y = sym (ap (λ (c : Class). label_in c y) ey) ∙ e y in
        rw (ex, ey) (join_label t r x y a j b k ex ey u v ∙ rw (e u, e v, p, q))

-- A STORE WITH THE CLASSES OF THE PAIRS ps
module _ (ps : List Pair) (s : Sets) (h : Rooted s) (g : (u v : ℕ) → label_in (s u) u is label_in (s v) v ≡ linked ps u v) where
  -- merged, it has one pair more
  pub merged_linked : (x y u v : ℕ) → label_in (merge x y s u) u is label_in (merge x y s v) v ≡ linked (record { a = x; b = y } ∷ ps) u v
  unfolding linked
  merged_linked x y u v = merge_label s h x y u v ∙ rw (g u v, g u x, g u y, g v x, g v y) (sym (one_label (label ps y) (label ps x) (label ps u) (label ps v)))

  -- asked of two different ids, it tells whether they are linked
  pub same_linked : (u v : ℕ) → (u ≡ v → ⊥) → in_same_set u v s ≡ linked ps u v
  same_linked u v n = go (s u) (s v) refl refl ∙ g u v
    where
      go : (c d : Class) → s u ≡ c → s v ≡ d → same_class c d ≡ label_in c u is label_in d v
      go unmerged unmerged p q = sym (ne_eqb u v n)
      go unmerged (in_set b k) p q = sym (ne_eqb u b (λ e.
          let i = h v b k q in let o : s u ≡ in_set b i.0 = rw e i.1 in let z : ◌≡◌ {A = ℕ} 0 1 = cc in omega arith))
      go (in_set a j) unmerged p q = sym (ne_eqb a v (λ e.
          let i = h u a j p in let o : s v ≡ in_set a i.0 = rw (← e) i.1 in let z : ◌≡◌ {A = ℕ} 0 1 = cc in omega arith))
      go (in_set a j) (in_set b k) p q = refl
