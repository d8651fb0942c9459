-- As many bytes as `list` tells stand in the text.
use Rattle.std.proofs.Common.{sym, length-take-le}
use Rattle.listing.proofs.Callers.{bytes_inside}
use Rattle.lister.proofs.print_listing.Goals as goal

pub slice_bounds-text-end : goal.slice_bounds-text-end
slice_bounds-text-end g c = bytes_inside _ _ _ c.list.ensures c.in-Ok.is

pub slice_bounds-write_all-end : goal.slice_bounds-write_all-end
slice_bounds-write_all-end g c = sym (length-take-le _ _ (bytes_inside _ _ _ c.list.ensures c.in-Ok.is))
