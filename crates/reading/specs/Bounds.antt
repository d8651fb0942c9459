-- How high the sites of a list reach.
use Rattle.std.specs.Prelude.{List, [], ◌∷◌, ℕ, suc, max}

-- one more than the greatest of them, 0 if there is none
unfoldable pub above : List ℕ → ℕ
above [] = 0
above (x ∷ xs) = max (suc x) (above xs)
