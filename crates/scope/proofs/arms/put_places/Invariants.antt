-- The loop's invariant: the words of the places below k are written.
use Rattle.definition.specs.Book.{Book}
use Rattle.room.proofs.Written.{Writing}
use Rattle.tables.specs.Held.{shown}
use Rattle.scope.specs.Drawn.{Drawn}
use Rattle.scope.proofs.Binds.{place_word_at}
use Rattle.scope.proofs.arms.put_places.Given as goal

abbrev pub invariant-loop-k : goal.invariant-loop-k
invariant-loop-k l = (b : Book) → Drawn l.sites b → Writing (place_word_at b l.s (shown l.p)) l.p.fields l.k l.fn.out l.out
