-- What a lister is after each part of a tree: its text has that part's lines, and what is entered stands deeper.
use Rattle.std.specs.Prelude.{List, ℕ}
use Rattle.definition.specs.Lists.{flat}
use Rattle.definition.specs.Listing.{let_line, match_line, arm_line, equal_line, return_line}
use Rattle.room.specs.Wrote.{after_all}
use Rattle.line.specs.Writes.{deeper}
use Rattle.reading.specs.Acts.{Acts}
use Rattle.listing.specs.declared.Lister.{Lister}
use Rattle.listing.specs.declared.Silent.{Silent}

-- the lister s after it wrote t, and entered number i
abbrev pub wrote : Lister → List ℕ → Lister
wrote s t = record s { out = record s.out { now = after_all s.out.now t } }

abbrev pub entered : Lister → List ℕ → ℕ → Lister
entered s t i = record (wrote s t) { path = deeper s.path i }

abbrev pub acts : Acts Lister (List ℕ)
acts = record {
  lets = λ s i l. record (wrote s (flat (let_line s.path) l)) { step = i };
  matches = λ s x. (entered s (match_line s.path s.step x) s.step, s.path);
  arm_of = λ s i x a. (entered s (arm_line s.path i a.0 a.1) i, s.path);
  equals = λ s a b. (entered s (equal_line s.path s.step a b) s.step, s.path);
  returns = λ s i p r. wrote s (return_line s.path s.step i p r);
  leaves = λ s m. record s { path = m };
}

abbrev pub nothing : Acts Silent (Unit {0})
nothing = record {
  lets = λ s i l. s;
  matches = λ s x. (s, tt);
  arm_of = λ s i x a. (s, tt);
  equals = λ s a b. (s, tt);
  returns = λ s i p r. s;
  leaves = λ s m. s;
}
