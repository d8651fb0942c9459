-- From what `read` answers to what `plan` answers: the tables are the definition's book, or the refusal is its number.
use Rattle.std.specs.Prelude.{Result, Ok, Err}
use mathlib.Core.Path.{◌≡◌, refl, sym, ◌∙◌, ap, ap₂, subst}
use mathlib.Core.Bool.{false}
use mathlib.Core.List.{List}
use Prim.Native.Nat.{ℕ, ◌*◌, ◌^◌, ◌≤◌, ◌<◌}
use native.Mathlib.Omega.{arith}
use lib.Dec.{eqb}
use lib.ListN.{length, take}
use lib.Seq.{length-take-le}
use borrow.Author.Tests.{eq-eqb}
use Rattle.definition.specs.Book.{most, slots}
use Rattle.definition.specs.Tables.{site_words, rule_words, book_of}
use Rattle.definition.specs.Accept.{sites_ok, rules_ok}
use Rattle.definition.specs.Bytes.{sites_named, rules_named, site_table, rule_table, book_in, book_from, book_refusal}
use Rattle.definition.specs.Plan.{tree}
use Rattle.definition.specs.Tree.{words}
use Rattle.definition.specs.Answers.{written, planned}
use Rattle.theorems.specs.Refusals.{Taken, taken, sites_length, rules_length}
use Rattle.theorems.specs.Proved.{demands}
use Rattle.scope.proofs.Drawings.{book_table}
use Rattle.scope.specs.Table.{Table}
use Rattle.book.specs.declared.Size.{Size}
use Rattle.book.specs.Reply.{Decoded}
use Rattle.blocks.specs.Accepted.{Accepted}
use Rattle.refusal.specs.declared.Refusal.{Refusal}
use Rattle.refusal.specs.Numbers.{number, refusal_of}
use Rattle.plan.specs.Leaves.{Leaves}

-- no refusal has the number 0
numbered : (k : Refusal) → eqb (number k) 0 ≡ false
numbered Refusal.Length = refl
numbered Refusal.Sums = refl
numbered Refusal.Frames = refl
numbered Refusal.SiteRecord = refl
numbered Refusal.RuleRecord = refl
numbered Refusal.FieldCounts = refl
numbered Refusal.Apart = refl
numbered Refusal.Ungranted = refl
numbered Refusal.Room = refl
numbered Refusal.Lists = refl
numbered Refusal.Tree = refl
numbered Refusal.Unread = refl
numbered Refusal.Id = refl

module _ {b : List ℕ} {r : Result Size Refusal} {t u : List ℕ} (d : Decoded b r t u) where
  -- tables were read
  module _ (s : Size) (e : r ≡ Ok s) where
    none_given : book_refusal b ≡ 0
    none_given = sym d.refusal ∙ ap refusal_of e

    sizes : (s.sites ≡ sites_named b) × (s.rules ≡ rules_named b)
    sizes = d.size s e

    known : Taken slots (book_in slots b)
    unfolding book_refusal
    known = taken slots b none_given

    pub few_sites : s.sites ≤ most
    unfolding book_in
    few_sites = omega (arith, known.few_sites, sites_length slots (sites_named b) (rules_named b) (site_table b (sites_named b)) (rule_table slots b (sites_named b) (rules_named b)), sizes.0)

    pub few_rules : s.rules ≤ most
    unfolding book_in
    few_rules = omega (arith, known.few_rules, rules_length slots (sites_named b) (rules_named b) (site_table b (sites_named b)) (rule_table slots b (sites_named b) (rules_named b)), sizes.1)

    pub book_is : book_of slots s.sites s.rules (take (site_words * s.sites) t) (take (rule_words slots * s.rules) u) ≡ book_from b
    unfolding book_from book_in
    book_is =
        ap₂ (book_of slots s.sites s.rules) (ap (λ k. take (site_words * k) t) sizes.0 ∙ d.sites none_given) (ap (λ k. take (rule_words slots * k) u) sizes.1 ∙ d.rules none_given)
        ∙ ap₂ (λ x y. book_of slots x y (site_table b (sites_named b)) (rule_table slots b (sites_named b) (rules_named b))) sizes.0 sizes.1

    pub site_room : site_words * s.sites ≤ length t
    site_room = let r = (d.roomy none_given).sites in omega (arith, few_sites)

    pub rule_room : rule_words slots * s.rules ≤ length u
    rule_room = let r = (d.roomy none_given).rules in omega (arith, few_rules)

    pub sites_table : Table s.sites (take (site_words * s.sites) t)
    unfolding book_from
    sites_table =
        let x = length-take-le (site_words * s.sites) t site_room in
        book_table s.sites s.rules (take (site_words * s.sites) t) (take (rule_words slots * s.rules) u) few_sites (omega arith) (ap sites_ok book_is ∙ known.passed.four)

    pub rules_accepted : Accepted s.sites s.rules (take (site_words * s.sites) t) (take (rule_words slots * s.rules) u)
    unfolding book_from
    rules_accepted =
        let y = length-take-le (rule_words slots * s.rules) u rule_room in
        record { few = few_rules; long = omega arith; rules_right = ap (rules_ok slots) book_is ∙ known.passed.five }

    pub tree_few : length (words (tree (book_of slots s.sites s.rules (take (site_words * s.sites) t) (take (rule_words slots * s.rules) u)))) < 2 ^ 20
    tree_few = subst (λ k. length (words (tree k)) < 2 ^ 20) (sym book_is) (demands b none_given).words_few

    pub planned_tree : (l : List ℕ) {a : Result ℕ Refusal} {m : List ℕ}
        → Leaves (written (words (tree (book_of slots s.sites s.rules (take (site_words * s.sites) t) (take (rule_words slots * s.rules) u)))) l) a m
        → Leaves (planned b l) a m
    unfolding planned
    planned_tree l {a} {m} v = rw (eq-eqb (book_refusal b) 0 none_given) (subst (λ k. Leaves (written (words (tree k)) l) a m) book_is v)

  -- a refusal
  pub planned_refusal : (k : Refusal) → r ≡ Err k → (l : List ℕ) → Leaves (planned b l) (Err k) l
  unfolding planned
  planned_refusal k e l =
      let n : number k ≡ book_refusal b = sym (ap refusal_of e) ∙ d.refusal in
      let z : eqb (book_refusal b) 0 ≡ false = subst (λ m. eqb m 0 ≡ false) n (numbered k) in
      record { answer = rw (z, n); room = rw z }
