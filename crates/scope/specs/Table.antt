-- A site table, as refusals 3 and 4 leave it.
use Rattle.std.specs.Prelude.{◌≡◌, List, ℕ, ◌≤◌, ◌<◌, length, get_or}
use Rattle.definition.specs.Book.{most}
use Rattle.definition.specs.Tables.{site_at}
use Rattle.tables.specs.Held.{Sited}

-- S sites that may be read, each source of a smaller id, a kind 7 site with one source
pub record Table (S : ℕ) (t : List ℕ) : Type 0 where
  pub few : S ≤ most
  pub sited : (s : ℕ) → s < S → Sited t s
  pub lower : (s k : ℕ) → s < S → k < length (site_at t s).sources → get_or (site_at t s).sources k 0 < s
  pub bound : (s : ℕ) → s < S → (site_at t s).kind ≡ 7 → length (site_at t s).sources ≡ 1
