-- Any two results that a call's contract allows for one input are the same, and so are the sets that are left; on a refusal it is
-- the very same store.
use Rattle.std.specs.Prelude.{◌≡◌, refl, List, [], ℕ, Bool, Option, Some, None, Result}
use Rattle.std.proofs.Common.{sym, ◌∙◌, ap}
use Rattle.definition.specs.Sets.{Sets}
use Rattle.definition.specs.Answers.{Answer, refused, merge_answer, remove_answer}
use Rattle.refusal.specs.declared.Refusal.{Refusal}
use Rattle.refusal.specs.Numbers.{told_once, told_same}
use Rattle.sets.specs.declared.Store.{Store}
use Rattle.sets.specs.declared.Members.{Members}
use Rattle.sets.specs.Told.{Tells}
use Rattle.sets.specs.Promises.{view, optional, Finds, Merges, Sames, Removes}

optional_once : (o p : Option ℕ) → optional o ≡ optional p → o ≡ p
optional_once None None e = refl
optional_once None (Some b) e = cc
optional_once (Some a) None e = cc
optional_once (Some a) (Some b) e = ap Some cc

-- the stores that two calls leave, where the definition answers d
pub record OneStore {A : Type 0} (d : Answer A) (r t : Store) : Type 0 where
  pub sets : view r ≡ view t
  pub refusal : (n : ℕ) → d ≡ refused n → r ≡ t

pub empty_determined : (r s : Store) {t : Sets} → view r ≡ t → view s ≡ t → view r ≡ view s
empty_determined r s a b = a ∙ sym b

pub find_determined : {s : Store} {x : ℕ} {r t : Result (Option ℕ) Refusal} → Finds s x r → Finds s x t → r ≡ t
find_determined {r = r} {t = t} a b = told_once optional_once r t (a.answer ∙ sym b.answer)

pub merge_determined : {s : Store} {x y : ℕ} {u v : Store} {r t : Result (Unit {0}) Refusal} → Merges s x y u r → Merges s x y v t
    → (r ≡ t) × OneStore (merge_answer x y) u v
merge_determined {r = r} {t = t} a b = (
  told_once (λ x y h. refl) r t (a.answer ∙ sym b.answer),
  record { sets = a.sets ∙ sym b.sets; refusal = λ n e. a.kept n e ∙ sym (b.kept n e) },
)

pub same_determined : {s : Store} {x y : ℕ} {r t : Result Bool Refusal} → Sames s x y r → Sames s x y t → r ≡ t
same_determined a b = told_same a.answer b.answer

pub told_determined : {root : List ℕ} {x y : ℕ} {r t : Result Bool Refusal} → Tells root x y r → Tells root x y t → r ≡ t
told_determined a b = told_same (a.answer []) (b.answer [])

pub remove_determined : {s : Store} {x : ℕ} {u v : Store} {r t : Result Members Refusal} → Removes s x u r → Removes s x v t
    → (r ≡ t) × OneStore (remove_answer x (view s)) u v
remove_determined {r = r} {t = t} a b = (
  told_same a.answer b.answer,
  record { sets = a.sets ∙ sym b.sets; refusal = λ n e. a.kept n e ∙ sym (b.kept n e) },
)
