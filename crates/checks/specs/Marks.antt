-- Sites still to be judged, as marks in an array: what refusal 8's walk down the sites keeps.
use Rattle.std.specs.Prelude.{◌≡◌, Bool, false, ◌&&◌, List, ℕ, ◌+◌, ◌*◌, ◌≤◌, ◌<◌, length, get_or}
use Rattle.definition.specs.Lists.{◌implies◌, all, upto}
use Rattle.definition.specs.Tables.{word_at, site_word, source_at, site_at, book_of}
use Rattle.definition.specs.Book.{Site, Rule}
use Rattle.definition.specs.Accept.{sound_from}

-- site y is good if it is marked
unfoldable pub good_if_marked : (ℕ → Bool) → List Bool → ℕ → Bool
good_if_marked good m y = get_or m y false implies good y

-- every marked site below q is good
unfoldable pub pending : (ℕ → Bool) → List Bool → ℕ → Bool
pending good m q = all (good_if_marked good m) (upto q)

-- n words of a table, from word `at` on, each `step` behind the one before
unfoldable pub stepped : List ℕ → ℕ → ℕ → ℕ → ℕ
stepped t at step k = word_at t (at + step * k)

-- marks m, and then those of more sites
pub record Marked (q : ℕ) (ids : List ℕ) (m m' : List Bool) : Type 0 where
  pub size : length m' ≡ length m
  pub judged : (good : ℕ → Bool) → pending good m' q ≡ pending good m q && all good ids

-- what refusal 4 leaves to know of site i of a table, as the site s of a book
pub record SourcesFit (t : List ℕ) (i s : ℕ) : Type 0 where
  pub few : site_word t i 1 ≤ 4
  pub one : site_word t i 0 ≡ 7 → site_word t i 1 ≡ 1
  pub below : (k : ℕ) → k < site_word t i 1 → source_at t i k < s

-- and of each of S sites
pub record Sourced (S : ℕ) (t : List ℕ) : Type 0 where
  pub each : (s : ℕ) → s < S → SourcesFit t s s

-- site x of id s is visited: what is judged below it decides as did what was judged up to it
pub record Visited (n : ℕ) (x : Site) (r : Rule) (s : ℕ) (v : Bool) (m m' : List Bool) : Type 0 where
  pub size : length m' ≡ length m
  pub judged : (S R : ℕ) (t u : List ℕ) → s < S → Sourced S t → site_at t s ≡ x
      → v && pending (sound_from (book_of n S R t u) r) m' s ≡ pending (sound_from (book_of n S R t u) r) m (s + 1)
