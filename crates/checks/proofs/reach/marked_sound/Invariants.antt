-- What is marked below the site decides as all marks did.
use Prim.Native.Nat.{ℕ}
use mathlib.Core.Path.{◌≡◌}
use mathlib.Core.List.{List}
use Rattle.checks.specs.Marks.{pending}
use Rattle.definition.specs.Accept.{sound_from}
use Rattle.definition.specs.Book.{slots}
use Rattle.definition.specs.Tables.{rule_at, book_of}
use Rattle.checks.proofs.reach.marked_sound.Given as goal

abbrev pub invariant-loop-s : goal.invariant-loop-s
invariant-loop-s l =
    let judge = λ (R : ℕ) (u : List ℕ). sound_from (book_of slots l.count R l.sites u) (rule_at slots l.rule.words.now 0) in
    (R : ℕ) (u : List ℕ) → pending (judge R u) l.marks l.s ≡ pending (judge R u) l.initial.marks l.count
