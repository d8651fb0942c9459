-- A pattern, from its words.
use Rattle.std.specs.Prelude.{ℕ, ℤ}
use Rattle.definition.specs.Book.{Pattern}

abbrev pub pattern_at : ℕ → ℤ → ℕ → Pattern
pattern_at k z f = record { kind = k; number = z; fields = f }
