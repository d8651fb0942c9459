-- `put_places` meets its contract: the places before `place-index` are written.
use Rattle.room.proofs.Written.{Each}
use Rattle.line.proofs.Writing.{place_said}
use Rattle.line.proofs.put_places.Given as goal

abbrev pub invariant-loop-place : goal.invariant-loop-place
invariant-loop-place l = Each place_said l.places l.place-index (l.initial.out) l.out
