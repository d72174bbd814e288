use Rattle.std.proofs.lemmas.Result.{err_from_is_err_and}
use Rattle.volume.proofs.Filling.{performed_as, cut_of}
use Rattle.streaming.proofs.Openings.{made_entry}
use Rattle.streaming.proofs.opening.make_job.Goals as goal

pub returns-in_err-write_entry-clause-runs : goal.returns-in_err-write_entry-clause-runs
returns-in_err-write_entry-clause-runs g c = λ u l h n e.
    let p = err_from_is_err_and c.from_residual.result c.from_residual.ensures.1 in
    rw (p.1, p.2)
    (cut_of (made_entry c.args.layout.now (g.D.SectorDevice.meaning c.args.device.now).sectors c.args.room.now.slot n l e c.block-first.ensures c.new-entry.ensures)
    (c.in_err-write_entry.ensures.runs u (h.listed c.args.room.now.slot l) c.args.layout.now))

pub returns-clause-runs : goal.returns-clause-runs
returns-clause-runs g c = λ u l h n e.
    performed_as (made_entry c.args.layout.now (g.D.SectorDevice.meaning c.args.device.now).sectors c.args.room.now.slot n l e c.block-first.ensures c.new-entry.ensures)
    (c.in_ok-write_entry.ensures.runs u (h.listed c.args.room.now.slot l) c.args.layout.now)
