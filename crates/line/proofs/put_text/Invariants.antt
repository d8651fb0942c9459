-- `put_text` meets its contract: the bytes before `byte-index` are written.
use mathlib.Core.List.{◌∷◌, []}
use Rattle.room.proofs.Written.{Each}
use Rattle.line.proofs.put_text.Given as goal

abbrev pub invariant-loop-byte : goal.invariant-loop-byte
invariant-loop-byte l = Each (λ b. b ∷ []) l.source l.byte-index l.initial.out l.out
