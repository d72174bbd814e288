-- Of the entries below this one those above the slot with the name are marked.
use Rattle.std.proofs.Common.{◌+◌, ◌&&◌, ltb}
use Rattle.std.specs.Str.{bytes_eq}
use Rattle.listing.specs.Faults.{entry_at}
use Rattle.listing.proofs.Taken.{MarkedTo}
use Rattle.listing.proofs.names.mark_name.Given as goal

abbrev pub invariant-loop-i : goal.invariant-loop-i
invariant-loop-i l = MarkedTo l.fn.taken (λ k. ltb l.slot (l.first + k) && bytes_eq (entry_at l.here (l.first + k)).name l.name) l.i l.taken
