-- A part of a list lent to a callee, that comes back as something else of the same length: what is lent, and what the list then is.
use Rattle.std.specs.Prelude.{◌≡◌, List, [], ◌++◌, ℕ, ◌+◌, ◌-◌, ◌≤◌, length, take, drop}
use Rattle.std.proofs.Common.{sym, ◌∙◌, ap, append_assoc, append-nil, le_refl, arith, length-append, length-take, length-drop, drop_of_length-le, take-append-drop, take_all, drop_at, length-take-le}
use Rattle.std.proofs.lemmas.List.{drop-append-le}
use borrow.Rule.Slice.PartMut.{put_mid}

-- a part that runs to the end is the rest
pub tail_part : (o : List ℕ) (lo : ℕ) → take (length o - lo) (drop lo o) ≡ drop lo o
tail_part o lo = take_all (length o - lo) (drop lo o) (simp length-drop (le_refl (length o - lo)))

pub tail_length : (o : List ℕ) (lo : ℕ) → length (take (length o - lo) (drop lo o)) ≡ length o - lo
tail_length o lo = simp (length-take, length-drop) (omega arith)

-- where it comes back as ys, the rest is ys
pub tail_back : (o ys : List ℕ) (lo : ℕ) → lo ≤ length o → drop lo (put_mid lo (length o - lo) o ys) ≡ ys
tail_back o ys lo h =
    let e : drop (length o - lo) (drop lo o) ≡ [] = drop_of_length-le (drop lo o) {i = length o - lo} (simp length-drop (omega arith)) in
    drop_at (take lo o) (ys ++ drop (length o - lo) (drop lo o)) lo (length-take-le lo o h)
    ∙ ap (λ (l : List ℕ). ys ++ l) e
    ∙ append-nil ys

-- a part in the middle comes back as zs: what stood behind it stands
pub mid_back : (o zs : List ℕ) (lo m : ℕ) → lo + m ≤ length o → length zs ≡ m → drop (lo + m) (put_mid lo m o zs) ≡ drop m (drop lo o)
mid_back o zs lo m h e =
    let n : length (take lo o ++ zs) ≡ lo + m = simp (length-append, length-take) (omega arith) in
    ap (drop (lo + m)) (sym (append_assoc (take lo o) zs (drop m (drop lo o))))
    ∙ drop_at (take lo o ++ zs) (drop m (drop lo o)) (lo + m) n

pub mid_length : (o ys : List ℕ) (lo n : ℕ) → lo + n ≤ length o → length ys ≡ n → length (put_mid lo n o ys) ≡ length o
mid_length o ys lo n h e = simp (length-append, length-take, length-drop) (omega arith)

-- words that fit the front part of a list, and the rest of the list behind it
pub front_back : (ws l : List ℕ) (n : ℕ) → length ws ≤ n → n ≤ length l → (ws ++ drop (length ws) (take n l)) ++ drop n l ≡ ws ++ drop (length ws) l
front_back ws l n h k =
    let e : length ws ≤ length (take n l) = let z = length-take-le n l k in omega arith in
    append_assoc ws (drop (length ws) (take n l)) (drop n l)
    ∙ ap (λ r. ws ++ r) (sym (drop-append-le (length ws) (take n l) (drop n l) e) ∙ ap (drop (length ws)) (take-append-drop n l))
