-- `text_room` has as many bytes as it says.
use Rattle.std.proofs.Common.{ℕ, sym}
use Rattle.std.proofs.lemmas.List.{length-replicate}
use Rattle.lister.proofs.text_room.Goals as goal

pub returns : goal.returns
returns c = sym (length-replicate {A = ℕ} 4194304 0)
