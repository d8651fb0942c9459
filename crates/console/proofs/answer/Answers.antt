-- As many words as `plan` tells stand in the room.
use Rattle.std.proofs.Common.{sym, length-take-le}
use Rattle.plan.proofs.Callers.{words_inside}
use Rattle.console.proofs.answer.Goals as goal

pub slice_bounds-print_words-end : goal.slice_bounds-print_words-end
slice_bounds-print_words-end g c = words_inside _ _ _ c.plan.ensures c.in-Ok.is

pub slice_bounds-print_words-end-in-Ok : goal.slice_bounds-print_words-end-in-Ok
slice_bounds-print_words-end-in-Ok g c = sym (length-take-le _ _ (words_inside _ _ _ c.plan.ensures c.in-Ok.is))
