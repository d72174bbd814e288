use Rattle.std.proofs.lemmas.Result.{err_from_is_err_and}
use Rattle.volume.proofs.Glue.{room_after}
use Rattle.saving.proofs.Rooms.{taken_cut_first, taken_cut_data, taken}
use Rattle.saving.proofs.vacancy.take_room.Goals as goal

pub returns-in_err-clear-clause-runs : goal.returns-in_err-clear-clause-runs
returns-in_err-clear-clause-runs g c = λ u l h e.
    let p = err_from_is_err_and c.from_residual.result c.from_residual.ensures.1 in
    rw (p.1, p.2) (taken_cut_first _ c.args.room.now.slot c.args.entry.now c.args.bytes.now (c.in_err-clear.ensures.runs u l h e))

pub returns-in_err-write_data-clause-runs : goal.returns-in_err-write_data-clause-runs
returns-in_err-write_data-clause-runs g c = λ u l h e.
    let p = err_from_is_err_and c.from_residual-in_err-write_data.result c.from_residual-in_err-write_data.ensures.1 in
    let v = c.in_ok-clear.ensures in
    let q = v.runs u l h e in
    rw (p.1, p.2) (taken_cut_data _ c.args.room.now.slot c.args.entry.now c.args.bytes.now (v.keeps u).1 q (c.in_err-write_data.ensures.runs (v.keeps u).0 l (room_after h q)))

pub returns-clause-runs : goal.returns-clause-runs
returns-clause-runs g c = λ u l h e.
    let v = c.in_ok-clear.ensures in
    let q = v.runs u l h e in
    let b = room_after h q in
    let d = c.in_ok-write_data.ensures in
    let k = v.keeps u in
    let p = d.runs k.0 l b in
    let j = d.keeps k.0 in
    taken _ _ c.args.room.now.slot c.args.entry.now c.args.bytes.now c.write_entry.result (λ a n f z. k.1 a n f (j.1 a n f z)) q p (c.write_entry.ensures.runs j.0 ((room_after b p).listed c.args.room.now.slot l) c.args.layout.now)
