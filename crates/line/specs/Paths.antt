-- What a path keeps: its numbers, and zeros behind them, so that its list gives it back.
use Rattle.std.specs.Prelude.{◌≡◌, List, ℕ, ◌+◌, ◌-◌, ◌++◌, ◌≤◌, ◌<◌, length, take, drop, replicate, set}
use Rattle.std.proofs.Common.{sym, ◌∙◌, ap, arith}
use Rattle.std.proofs.lemmas.List.{take-append-drop, length-take-le, length-set, drop-drop, drop-replicate, drop-set-lt}
use Rattle.line.specs.declared.TheConstants.{LONGEST}

-- of the list n, the first d are the path's
pub record Kept (d : ℕ) (n : List ℕ) : Type 0 where
  pub short : d ≤ LONGEST
  pub long : length n ≡ LONGEST
  pub behind : drop d n ≡ replicate (LONGEST - d) 0

abbrev pub padded : List ℕ → List ℕ
padded l = l ++ replicate (LONGEST - length l) 0

pub front_long : (d : ℕ) (n : List ℕ) → Kept d n → length (take d n) ≡ d
front_long d n k = length-take-le d n (omega (arith, k.short, k.long))

pub given_back : (d : ℕ) (n : List ℕ) → Kept d n → padded (take d n) ≡ n
given_back d n k =
    ap (λ m. take d n ++ replicate (LONGEST - m) 0) (front_long d n k)
    ∙ ap (λ t. take d n ++ t) (sym k.behind)
    ∙ take-append-drop d n

-- one number more
pub longer : (d i : ℕ) (n : List ℕ) → Kept d n → d < LONGEST → Kept (d + 1) (set n d i)
longer d i n k h = record {
  short = omega (arith, h);
  long = length-set n d i ∙ k.long;
  behind =
      drop-set-lt (d + 1) n d i (omega arith)
      ∙ sym (drop-drop 1 d n)
      ∙ ap (drop 1) k.behind
      ∙ drop-replicate 1 (LONGEST - d) 0
      ∙ ap (λ m. replicate m 0) (omega arith);
}
