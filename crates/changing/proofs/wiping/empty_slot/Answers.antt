use Rattle.std.proofs.lemmas.Result.{err_from_is_err_and}
use Rattle.volume.proofs.Glue.{room_after}
use Rattle.changing.proofs.Emptying.{zeros_cut, emptied_runs}
use Rattle.changing.proofs.wiping.empty_slot.Goals as goal

pub returns-in_err-zero_block-clause-runs : goal.returns-in_err-zero_block-clause-runs
returns-in_err-zero_block-clause-runs g c = λ u l h b.
    let p = err_from_is_err_and c.from_residual.result c.from_residual.ensures.1 in
    rw (p.1, p.2) (zeros_cut c.args.layout.now c.args.slot c.args.count (c.in_err-zero_block.ensures.runs u l h b))

pub returns-clause-runs : goal.returns-clause-runs
returns-clause-runs g c = λ u l h b.
    let k = c.in_ok-zero_block.ensures.keeps u in
    emptied_runs c.args.layout.now _ c.args.slot c.args.count c.write_entry.result c.held.ensures k.1 h l (c.in_ok-zero_block.ensures.runs u l h b) (c.write_entry.ensures.runs k.0)

pub returns-clause-holds : goal.returns-clause-holds
returns-clause-holds g c = λ u l h b. c.write_entry.ensures.holds (c.in_ok-zero_block.ensures.keeps u).0 ((room_after h (c.in_ok-zero_block.ensures.runs u l h b)).listed c.args.slot l)
