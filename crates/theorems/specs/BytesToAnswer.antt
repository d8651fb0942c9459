-- From bytes to answer: what planning leaves in the room is walked as the tree, and the tree answers right.
use Rattle.std.specs.Prelude.{◌≡◌, ◌⊎◌, true, false, List, ◌++◌, ℕ, eqb, leb, length, drop}
use Rattle.std.proofs.Common.{sym, ◌∙◌, ap, inl, inr, arith, eqb-true, lt-ltb}
use Rattle.std.proofs.Math.Option.{Option, none, some}
use Rattle.definition.specs.Lists.{all}
use Rattle.definition.specs.Book.{Book}
use Rattle.definition.specs.Accept.{smaller_than}
use Rattle.definition.specs.Bytes.{book_from, book_refusal}
use Rattle.definition.specs.Plan.{tree}
use Rattle.definition.specs.Tree.{words}
use Rattle.definition.specs.Walk.{Reading, Hit, walk, sites_in}
use Rattle.definition.specs.Answers.{refused, answered, written, planned, covers, walked}
use Rattle.laws.specs.Tests.{split}
use Rattle.laws.specs.Members.{all_from}
use Rattle.theorems.specs.Demands.{SoundTree, Reads, AnswersFor, EndToEnd}
use Rattle.theorems.specs.Proved.{demands}

is_refused : {A : Type 0} {n : ℕ} {a : A} → refused n ≡ answered a → ⊥
is_refused e = let z : ◌≡◌ {A = ℕ} 0 1 = cc in omega arith

-- where planning answers with a count, the book is accepted and the room begins with the words of its tree
pub record Planned (bytes room : List ℕ) : Type 0 where
  pub accepted : book_refusal bytes ≡ 0
  pub rest : List ℕ
  pub left : (planned bytes room).room ≡ words (tree (book_from bytes)) ++ rest

pub planned_so : (bytes room : List ℕ) (n : ℕ) → (planned bytes room).answer ≡ answered n → Planned bytes room
unfolding planned written
planned_so bytes room n e = go (split (eqb (book_refusal bytes) 0)) (split (leb (length ws) (length room)))
  where
    ws : List ℕ
    ws = words (tree (book_from bytes))

    go : (eqb (book_refusal bytes) 0 ≡ true) ⊎ (eqb (book_refusal bytes) 0 ≡ false) → (leb (length ws) (length room) ≡ true) ⊎ (leb (length ws) (length room) ≡ false) → Planned bytes room
    go (inl p) (inl q) = record { accepted = eqb-true (book_refusal bytes) 0 p; rest = drop (length ws) room; left = rw (p, q) }
    go (inl p) (inr q) = absurd (is_refused (rw (p, q) at e))
    go (inr p) q = absurd (is_refused (rw p at e))

-- the walk of those words is the walk of the tree
pub walked_tree : (b : Book) → SoundTree b → (rest : List ℕ) (d : Reading) → Reads b d → walked (words (tree b) ++ rest) d ≡ answered (walk d (tree b))
unfolding walked covers smaller_than
walked_tree b t rest d r =
    let c : all (smaller_than (length d.kinds)) (sites_in (tree b)) ≡ true = all_from (smaller_than (length d.kinds)) (sites_in (tree b)) (λ s m. lt-ltb s (length d.kinds) (omega (arith, t.sites_known s m, r.every_site))) in
    rw (r.level, t.reads_back rest, c)

answers_for : (b : Book) → SoundTree b → (ws : List ℕ) → ((d : Reading) → Reads b d → walked ws d ≡ answered (walk d (tree b))) → AnswersFor b ws
answers_for b t ws h = record {
  answers = λ d r n e. is_refused (sym e ∙ h d r);
  nothing = λ d r. (λ e. (t.demand_3.nothing d).0 (same (walk d (tree b)) none (sym (h d r) ∙ e)), λ m. h d r ∙ ap answered ((t.demand_3.nothing d).1 m));
  found = λ d r k e. t.demand_3.found d k (same (walk d (tree b)) (some k) (sym (h d r) ∙ e));
}
  where
    same : (o q : Option Hit) → answered o ≡ answered q → o ≡ q
    same o q e = cc

pub end_to_end : EndToEnd
end_to_end bytes room n e =
    let p = planned_so bytes room n e in
    let t = demands bytes p.accepted in
    answers_for (book_from bytes) t (planned bytes room).room (λ d r. ap (λ ws. walked ws d) p.left ∙ walked_tree (book_from bytes) t p.rest d r)
