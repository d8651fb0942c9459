-- As many words as `plan` tells stand in the room.
use Rattle.std.proofs.Common.{sym, length-take-le}
use Rattle.plan.proofs.Callers.{words_inside}
use Rattle.lister.proofs.answer.Goals as goal

pub slice_bounds-room-end : goal.slice_bounds-room-end
slice_bounds-room-end g c = words_inside _ _ _ c.plan.ensures c.in-Ok.is

pub slice_bounds-print_listing-end : goal.slice_bounds-print_listing-end
slice_bounds-print_listing-end g c = sym (length-take-le _ _ (words_inside _ _ _ c.plan.ensures c.in-Ok.is))
