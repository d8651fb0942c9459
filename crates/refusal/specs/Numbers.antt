-- The number of each refusal, and what a result answers.
use Rattle.std.specs.Prelude.{◌≡◌, ℕ, Result, Ok, Err, if◌then◌else◌}
use Rattle.std.proofs.Common.{refl, sym, ◌∙◌, ap}
use Rattle.definition.specs.Lists.{◌is◌}
use Rattle.definition.specs.Answers.{Answer, refused, answered}
use Rattle.refusal.specs.declared.Refusal.{Refusal}

abbrev pub number : Refusal → ℕ
number Refusal.Length = 1
number Refusal.Sums = 2
number Refusal.Frames = 3
number Refusal.SiteRecord = 4
number Refusal.RuleRecord = 5
number Refusal.FieldCounts = 6
number Refusal.Apart = 7
number Refusal.Ungranted = 8
number Refusal.Room = 9
number Refusal.Lists = 10
number Refusal.Tree = 11
number Refusal.Unread = 12
number Refusal.Id = 16

-- the definition's answer: what was asked for, by its meaning, or the refusal's number
abbrev pub told : {A : Type 0} {B : Type 0} → (A → B) → Result A Refusal → Answer B
told f (Ok x) = answered (f x)
told f (Err r) = refused (number r)

-- the number of a test's refusal, 0 where it passed
abbrev pub refusal_of : {A : Type 0} → Result A Refusal → ℕ
refusal_of (Ok x) = 0
refusal_of (Err r) = number r

-- the refusal of a number
named : ℕ → Refusal
named n =
    if n is 1 then Refusal.Length else
    if n is 2 then Refusal.Sums else
    if n is 3 then Refusal.Frames else
    if n is 4 then Refusal.SiteRecord else
    if n is 5 then Refusal.RuleRecord else
    if n is 6 then Refusal.FieldCounts else
    if n is 7 then Refusal.Apart else
    if n is 8 then Refusal.Ungranted else
    if n is 9 then Refusal.Room else
    if n is 10 then Refusal.Lists else
    if n is 11 then Refusal.Tree else
    if n is 12 then Refusal.Unread else
    Refusal.Id

named_number : (r : Refusal) → named (number r) ≡ r
unfolding named
named_number Refusal.Length = refl
named_number Refusal.Sums = refl
named_number Refusal.Frames = refl
named_number Refusal.SiteRecord = refl
named_number Refusal.RuleRecord = refl
named_number Refusal.FieldCounts = refl
named_number Refusal.Apart = refl
named_number Refusal.Ungranted = refl
named_number Refusal.Room = refl
named_number Refusal.Lists = refl
named_number Refusal.Tree = refl
named_number Refusal.Unread = refl
named_number Refusal.Id = refl

-- two refusals of one number are one
pub number_same : (r s : Refusal) → number r ≡ number s → r ≡ s
number_same r s e = sym (named_number r) ∙ ap named e ∙ named_number s

-- two results that tell one answer are one, where the values told are
pub told_once : {A B : Type 0} {f : A → B} → ((x y : A) → f x ≡ f y → x ≡ y) → (r t : Result A Refusal) → told f r ≡ told f t → r ≡ t
told_once one (Ok x) (Ok y) e = ap Ok (one x y cc)
told_once one (Ok x) (Err s) e = cc
told_once one (Err s) (Ok y) e = cc
told_once one (Err r) (Err s) e = ap Err (number_same r s cc)

-- the same where the values are told as they are
pub told_same : {A : Type 0} {d : Answer A} {r t : Result A Refusal} → told (λ x. x) r ≡ d → told (λ x. x) t ≡ d → r ≡ t
told_same {r = r} {t = t} e f = told_once (λ x y h. h) r t (e ∙ sym f)
