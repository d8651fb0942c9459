-- What the functions that read words promise.
use Rattle.std.specs.Prelude.{◌≡◌, List, ℕ, length, map}
use Rattle.std.specs.Prelude as std
use Rattle.std.specs.Borrow.{Bor}
use Rattle.std.proofs.Math.Option.{Option, none, some}
use Rattle.definition.specs.Book.{Pattern}
use Rattle.definition.specs.Read.{place_of}
use Rattle.tree.specs.Patterns.{pattern_at}
use Rattle.reading.specs.declared.Named.{Named}

-- what is read first, and the words behind it; the reader is then s, as f says of what was read
abbrev pub ends : {A S : Type 0} → (A → S) → Option (A × List ℕ) → S → std.Option (Bor (List ℕ)) → Type 0
ends f o s std.None = o ≡ none
ends {A} f o s (std.Some rest) = (x : A) × (o ≡ some (x, rest.now)) × (s ≡ f x)

pub record Ends {A S : Type 0} (f : A → S) (o : Option (A × List ℕ)) (r : std.Option (Bor (List ℕ))) (s : S) : Type 0 where
  pub is : ends f o s r

-- one word, and n words
abbrev pub one_word : std.Option (ℕ × Bor (List ℕ)) → Option (ℕ × List ℕ)
one_word std.None = none
one_word (std.Some p) = some (p.0, p.1.now)

abbrev pub some_words : std.Option (Bor (List ℕ) × Bor (List ℕ)) → Option (List ℕ × List ℕ)
some_words std.None = none
some_words (std.Some p) = some (p.0.now, p.1.now)

-- an arm's pattern and places
abbrev pub pattern_of : std.Option (Named × Bor (List ℕ)) → Option ((Pattern × List (Option ℕ)) × List ℕ)
pattern_of std.None = none
pattern_of (std.Some p) = some ((pattern_at p.0.kind p.0.number (length p.0.places.now), map place_of p.0.places.now), p.1.now)
