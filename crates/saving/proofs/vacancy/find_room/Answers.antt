use Rattle.std.proofs.lemmas.Result.{err_from_is_err_and}
use Rattle.volume.specs.Kept.{kept}
use Rattle.saving.proofs.Rooms.{room_unread}
use Rattle.saving.proofs.vacancy.find_room.Goals as goal

pub returns-in_err-scan-clause-finds : goal.returns-in_err-scan-clause-finds
returns-in_err-scan-clause-finds g c = λ u h.
    let p = err_from_is_err_and c.from_residual.result c.from_residual.ensures.1 in
    rw (p.1, p.2) (room_unread _ _ _ (kept c.args.memory.now) c.args.name.now _ c.of.ensures h (c.in_err-scan.ensures.scans u))
